-- What answers mean. Source: own.
use Rattle.std.specs.Prelude.{◌≡◌, ◌⊎◌, ◌<◌, ℕ, List, [], ◌∷◌, Some, length, slice_get}
use Rattle.std.specs.List.{concat}
use Rattle.pp_answers.specs.Answers.{Answers, IsAccepted}
use Rattle.pp_answers.specs.Claims.{AreLinesOf, Claim, InvalidFails, OpenIsSearched, ValidIsGood}
use Rattle.pp_answers.specs.Readings.{IsMadeReadBack, IsReadBack, IsTextReadBack}
use Rattle.pp_eval.specs.Runs.{run as run_of}
use Rattle.pp_eval.specs.declared.outcome.Outcome.{Outcome}
use Rattle.pp_eval.specs.declared.outcome.Outcome.TheVariants.{Fails, Inner}
use Rattle.pp_induct.specs.Reports.{AreLimits}
use Rattle.pp_induct.specs.declared.limits.Limits.{Limits}
use Rattle.pp_made.specs.Made.{made_source}
use Rattle.pp_modes.specs.Responses.{Response, lines_in, status_in}
use Rattle.pp_modes.specs.Runs.{IsAsked, outcome_report}
use Rattle.pp_modes.specs.declared.status.Status.{Status}
use Rattle.pp_modes.specs.declared.status.Status.TheVariants as status
use Rattle.pp_ordinary.specs.Laws.{AreShort}
use Rattle.pp_print.specs.Heads.{heads}
use Rattle.pp_prog.specs.declared.expr.Function.{Function}
use Rattle.pp_prog.specs.declared.program.Program.{Program}
use Rattle.pp_sound.specs.Sound.{IsCheckOf}
use Rattle.pp_words.specs.Task.{Task, make, run, verify}
use Rattle.pp_words.specs.declared.order.Order.{Order}
use Rattle.pp_words.specs.declared.task.Numbers.{Numbers}

-- the numbers of a task that name these limits
abbrev pub numbers_of : Limits → Numbers
numbers_of l = record { rounds = l.rounds; depth = l.depth; lemmas = l.lemmas; gates = l.gates }

-- the task to verify within these limits, with checks that are worked on in this order
abbrev pub verify_within : Order → Limits → Task
verify_within order limits = verify order (numbers_of limits)

-- the task to verify so the source that is made from a seed
abbrev pub make_within : ℕ → Limits → Task
make_within seed limits = make seed (numbers_of limits)

-- ---- statuses

-- functions are verified
pub data IsVerify : Task → Type 0 where
  is_verify : (order : Order) (limits : Limits) → IsVerify (verify_within order limits)
  is_make : (seed : ℕ) (limits : Limits) → IsVerify (make_within seed limits)

-- a status on the verdicts of functions
pub data IsOnVerdicts : Status → Type 0 where
  all_valid : IsOnVerdicts status.AllValid
  some_invalid : IsOnVerdicts status.SomeInvalid
  some_open : IsOnVerdicts status.SomeOpen

-- two statuses on verdicts, by one of which some function stays open
pub record StaysOpen (s t : Status) : Type 0 where
  pub one : IsOnVerdicts s
  pub other : IsOnVerdicts t
  pub either : (s ≡ status.SomeOpen) ⊎ (t ≡ status.SomeOpen)

-- the two statuses are one; or functions are verified, of which some stay open in one of two reports
abbrev pub Agree : Task → Status → Status → Type 0
Agree task s t = (s ≡ t) ⊎ (IsVerify task × StaysOpen s t)

-- a task and sources have one status, as far as functions that are verified don't stay open
abbrev pub OneStatus : Type 0
OneStatus = (task : Task) (sources : List (List ℕ)) (r s : Response) → Answers task sources r → Answers task sources s
    → Agree task (status_in r) (status_in s)

-- ---- mode `verify`

-- each function gets one line, a head, and the status is by these lines
abbrev pub OneLineEach : Type 0
OneLineEach = (order : Order) (limits : Limits) (sources : List (List ℕ)) (r : Response)
    → Answers (verify_within order limits) sources r → (p : Program) → IsAccepted sources p
    → AreLinesOf p (heads (lines_in r)) (status_in r)

-- the claim is true of the line of each function of the program of the sources, where these lines are the heads
abbrev pub EachLine : List (List ℕ) → List (List ℕ) → Claim → Type 0
EachLine sources lines claim =
    (p : Program) → IsAccepted sources p → (i : ℕ) (f : Function) (line : List ℕ) → slice_get p.functions i ≡ Some f
    → slice_get lines i ≡ Some line → claim p i f line

-- it is true of each head that is answered, whatever the order is
abbrev pub IsAlwaysTrue : (Limits → Claim) → Type 0
IsAlwaysTrue claim = (order : Order) (limits : Limits) (sources : List (List ℕ)) (r : Response)
    → Answers (verify_within order limits) sources r → EachLine sources (heads (lines_in r)) (claim limits)

-- a function is called valid only where it is good: every call that meets the precondition evaluates, with some fuel,
-- to a value that meets the postcondition
abbrev pub ValidMeansGood : Type 0
ValidMeansGood = IsAlwaysTrue (λ limits. ValidIsGood)

-- a function is called invalid only with arguments whose run fails the named check
abbrev pub InvalidMeansFailed : Type 0
InvalidMeansFailed = IsAlwaysTrue InvalidFails

-- a function is called open at a round only where no arguments up to the asked depth fail the named check with calls
-- nested at most so deep
abbrev pub OpenMeansSearched : Type 0
OpenMeansSearched = IsAlwaysTrue OpenIsSearched

-- within limits in their ranges and for sources that aren't too many or too long, what is read back from the line of a
-- function is what was printed, and it is true: the verdict, the function that is named, the check, the arguments, the
-- round and the reason
abbrev pub LinesReadBack : Type 0
LinesReadBack = (order : Order) (limits : Limits) (sources : List (List ℕ)) (r : Response) → AreLimits limits
    → AreShort sources → Answers (verify_within order limits) sources r
    → EachLine sources (heads (lines_in r)) (IsReadBack limits)

-- so is what is read back from the whole text that is printed: it tells where each line ends and which lines are heads,
-- and so all this of each function, in order, and how many functions have each verdict
abbrev pub TextReadBack : Type 0
TextReadBack = (order : Order) (limits : Limits) (sources : List (List ℕ)) (r : Response) → AreLimits limits
    → AreShort sources → Answers (verify_within order limits) sources r → (p : Program) → IsAccepted sources p
    → IsTextReadBack limits p (concat (lines_in r))

-- ---- mode `make`

-- what is read back from the text on functions that were made is what was printed, and it is true: how many there are,
-- and how many have each verdict; the status is by these counts
abbrev pub MadeReadBack : Type 0
MadeReadBack = (seed : ℕ) (limits : Limits) (fetched : List (List ℕ)) (r : Response) → AreLimits limits
    → Answers (make_within seed limits) fetched r → (p : Program) → IsAccepted (made_source seed ∷ []) p
    → IsMadeReadBack limits p (concat (lines_in r)) (status_in r)

-- ---- mode `run`

-- a check that fails is a listed one of function number i, or of the called function that it failed in
abbrev pub FailsListed : Program → ℕ → Outcome → Type 0
FailsListed p i (Fails c) = IsCheckOf p i c.0
FailsListed p i (Inner g c) = (g.0 < length p.functions) × IsCheckOf p g.0 c.0
FailsListed p i outcome = Unit {0}

-- the response is the line of the evaluator's outcome, and a check that it names is a listed one
pub record IsRunReport (p : Program) (name : List ℕ) (fuel : ℕ) (f : Function) (asked : IsAsked p name fuel f)
    (r : Response) : Type 0 where
  pub line : r ≡ outcome_report p name fuel (run_of p.types.ctors p.functions f [] fuel)
  pub listed : FailsListed p asked.place (run_of p.types.ctors p.functions f [] fuel)

-- so it is with each run
abbrev pub RunsAreRuns : Type 0
RunsAreRuns = (name : List ℕ) (fuel : ℕ) (sources : List (List ℕ)) (r : Response) → Answers (run name fuel) sources r
    → (p : Program) → IsAccepted sources p → (f : Function) (asked : IsAsked p name fuel f)
    → IsRunReport p name fuel f asked r

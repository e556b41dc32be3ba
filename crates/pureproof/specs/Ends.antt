-- How a run of the program ends. Source: own.
use Rattle.std.specs.Prelude.{◌≡◌, ◌⊎◌, ◌∷◌, ◌++◌, [], ℕ, List, Option, Some, Contains}
use Rattle.std.specs.List.{concat}
use Rattle.pp_answers.specs.Answers.{Answers, IsAccepted, sources_of}
use Rattle.pp_answers.specs.Claims.{AreLinesOf, Claim, InvalidFails, OpenIsSearched, ValidIsGood}
use Rattle.pp_answers.specs.Laws.{Agree, EachLine, IsOnVerdicts, IsVerify, make_within, verify_within}
use Rattle.pp_answers.specs.Readings.{IsMadeReadBack, IsTextReadBack}
use Rattle.pp_induct.specs.declared.limits.Limits.{Limits}
use Rattle.pp_made.specs.Made.{made_source}
use Rattle.pp_modes.specs.Responses.{Response, report, status_in}
use Rattle.pp_modes.specs.declared.status.Status.{Status}
use Rattle.pp_modes.specs.declared.status.Status.TheVariants as status
use Rattle.pp_print.specs.Heads.{heads}
use Rattle.pp_prog.specs.declared.program.Program.{Program}
use Rattle.pp_seam.specs.Faults.{Rose}
use Rattle.pp_words.specs.Line.{Line, line_of}
use Rattle.pp_words.specs.declared.order.Order.{Order}
use Rattle.pureproof.specs.Dues.{AreFetched, IsDue}
use Rattle.pureproof.specs.Fetched.{AreShort, AsksFirst, FailsAt, FetchesNothing, Shelf, Text}
use Rattle.pureproof.specs.Shown.{Shows, Took, TookAll}

-- a run of the program: its words, and what shelf and sinks tell before and after
pub record Run : Type 0 where
  pub words : List Text
  pub shelf : Shelf
  pub out : Took
  pub err : Took

abbrev pub the_run : List Text → Shelf → Took → Took → Run
the_run words shelf out err = record { words = words; shelf = shelf; out = out; err = err }

-- something is due, and it is shown, or cut by a fault
pub record Ends (run : Run) (s : Status) : Type 0 where
  pub response : Response
  pub due : IsDue run.words run.shelf response
  pub shows : Shows run.out run.err response s

-- the paths hold these bytes
pub data Hold (held : Text → Option Text) : List Text → List Text → Type 0 where
  no_files : Hold held [] []
  one_file : {path bytes : Text} {paths sources : List Text} → held path ≡ Some bytes → Hold held paths sources
      → Hold held (path ∷ paths) (bytes ∷ sources)

-- the words are this line, and its files hold these bytes, none of which are too many
pub record Holds (run : Run) (line : Line) (sources : List Text) : Type 0 where
  pub words : line_of run.words ≡ Some line
  pub held : Hold run.shelf.held line.files sources
  pub short : AreShort sources

-- what may come in place of every status: want of memory; a file whose fetch failed; a sink whose count of faults rose
pub data Excuses (run : Run) : Status → Type 0 where
  no_memory : Excuses run status.Memory
  unread : (line : Line) (path : Text) → line_of run.words ≡ Some line → Contains line.files path
      → run.shelf.failed_after ≡ run.shelf.failed ++ path ∷ [] → Excuses run status.ReadFault
  out_failed : Rose run.out.faults run.out.faults_after → Excuses run status.WriteFault
  err_failed : Rose run.err.faults run.err.faults_after → Excuses run status.WriteFault

-- where the files hold sources, none if there are no files, and the task has an answer to them, the program ends with
-- its status; reports of modes `verify` and `make` may differ in what stays open
abbrev pub Comes : Run → Status → Type 0
Comes run s = (line : Line) (sources : List Text) (r : Response) → Holds run line sources → Answers line.task sources r
    → Agree line.task s (status_in r) ⊎ Excuses run s

-- where the sources of the task are accepted, modes `verify` and `make` end with a status on verdicts
abbrev pub Verifies : Run → Status → Type 0
Verifies run s = (line : Line) (sources : List Text) (p : Program) → Holds run line sources → IsVerify line.task
    → IsAccepted (sources_of line.task sources) p → IsOnVerdicts s ⊎ Excuses run s

-- `out` took the lines of an answer to the fetched sources, which are accepted. Of those that stand under no other
-- there is one for each function, in program order, and one more behind them. The status is by the lines of the
-- functions, and the claim is true of each of these.
pub record Reports (run : Run) (line : Line) (s : Status) (claim : Claim) : Type 0 where
  pub sources : List Text
  pub fetched : AreFetched run.shelf line sources
  pub program : Program
  pub accepted : IsAccepted sources program
  pub lines : List Text
  pub answers : Answers line.task sources (report s lines)
  pub printed : TookAll run.out (concat lines)
  pub one_each : (p : Program) → IsAccepted sources p → AreLinesOf p (heads lines) s
  pub claims : EachLine sources (heads lines) claim

-- so it is where mode `verify` ends with a status on verdicts
abbrev pub EachPrinted : (Limits → Claim) → Run → Status → Type 0
EachPrinted claim run s = (line : Line) (order : Order) (limits : Limits) → line_of run.words ≡ Some line
    → line.task ≡ verify_within order limits → IsOnVerdicts s → Reports run line s (claim limits)

-- each function that is printed as valid is good
abbrev pub ValidLinesAreTrue : Run → Status → Type 0
ValidLinesAreTrue = EachPrinted (λ limits. ValidIsGood)

-- each that is printed as invalid fails the printed check, run on the printed arguments
abbrev pub InvalidFail : Run → Status → Type 0
InvalidFail = EachPrinted InvalidFails

-- and of each that is printed as open at a round the printed check was searched there
abbrev pub OpenAreSearched : Run → Status → Type 0
OpenAreSearched = EachPrinted OpenIsSearched

-- `out` took a text, and this says one thing of the program of the fetched sources: the verdict of each function, in
-- order, with its check, its arguments, its round and its reason, and how many functions have each verdict; and all
-- this is true
pub record ReadsBack (run : Run) (line : Line) (limits : Limits) : Type 0 where
  pub sources : List Text
  pub fetched : AreFetched run.shelf line sources
  pub program : Program
  pub accepted : IsAccepted sources program
  pub text : Text
  pub printed : TookAll run.out text
  pub says : (p : Program) → IsAccepted sources p → IsTextReadBack limits p text

-- so it is where mode `verify` ends with a status on verdicts
abbrev pub TextIsReadBack : Run → Status → Type 0
TextIsReadBack run s = (line : Line) (order : Order) (limits : Limits) → line_of run.words ≡ Some line
    → line.task ≡ verify_within order limits → IsOnVerdicts s → ReadsBack run line limits

-- Nothing was fetched, `out` took a text, and this says one thing of the program of the source that is made from the
-- seed: how many functions it has, and how many of them have each verdict; and all this is true.
pub record ReadsMade (run : Run) (s : Status) (seed : ℕ) (limits : Limits) : Type 0 where
  pub alone : FetchesNothing run.shelf
  pub program : Program
  pub accepted : IsAccepted (made_source seed ∷ []) program
  pub text : Text
  pub printed : TookAll run.out text
  pub says : (p : Program) → IsAccepted (made_source seed ∷ []) p → IsMadeReadBack limits p text s

-- so it is where mode `make` ends with a status on verdicts
abbrev pub MadeIsReadBack : Run → Status → Type 0
MadeIsReadBack run s = (line : Line) (seed : ℕ) (limits : Limits) → line_of run.words ≡ Some line
    → line.task ≡ make_within seed limits → IsOnVerdicts s → ReadsMade run s seed limits

-- the first files of the line were asked for, in order, and nothing else; no fetch failed, or that of the last of them
pub record FetchesFiles (line : Line) (shelf : Shelf) : Type 0 where
  pub asks : AsksFirst shelf line.files
  pub failed : (shelf.failed_after ≡ shelf.failed) ⊎ ((sources : List Text) × FailsAt shelf line.files sources)

abbrev pub Fetched : List Text → Shelf → Type 0
Fetched words shelf = FetchesNothing shelf
    ⊎ ((line : Line) × (line_of words ≡ Some line) × FetchesFiles line shelf)

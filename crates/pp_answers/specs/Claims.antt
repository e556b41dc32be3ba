-- What is claimed of the lines of a report: of its heads, the lines that stand under no other. Source: own.
use Rattle.std.specs.Prelude.{◌≡◌, ◌⊎◌, ◌<◌, ◌≤◌, ◌+◌, ℕ, List, ◌++◌, Some, codes, length, slice_get}
use Rattle.pp_eval.specs.Runs.{IsGood}
use Rattle.pp_induct.specs.declared.limits.Limits.{Limits}
use Rattle.pp_induction.specs.Ends.{NoLowRunFails}
use Rattle.pp_modes.specs.declared.status.Status.{Status}
use Rattle.pp_modes.specs.declared.status.Status.TheVariants as status
use Rattle.pp_print.specs.Lines.{invalid_text, open_text}
use Rattle.pp_print.specs.declared.line.Reason.{Reason}
use Rattle.pp_prog.specs.declared.expr.Function.{Function}
use Rattle.pp_prog.specs.declared.id.CheckId.{CheckId}
use Rattle.pp_prog.specs.declared.program.Program.{Program}
use Rattle.pp_prog.specs.declared.value.Value.{Value}
use Rattle.pp_sound.specs.Counterexample.{IsCounterexample}
use Rattle.pp_sound.specs.Sound.{IsCheckOf}

-- the line is that of the function, and says these words behind its name
abbrev pub Says : List ℕ → Function → List ℕ → Type 0
Says words f line = (rest : List ℕ) × (line ≡ f.name ++ (words ++ rest))

-- ---- each function has a line

-- these lines are the heads
module _ (functions : List Function) (lines : List (List ℕ)) where
  -- the line of function number i says these words
  pub record LineSays (words : List ℕ) (i : ℕ) : Type 0 where
    pub function : Function
    pub here : slice_get functions i ≡ Some function
    pub line : List ℕ
    pub there : slice_get lines i ≡ Some line
    pub says : Says words function line

  -- the status by the lines: 0 where each function is valid; 1 where one is invalid; 2 where none is, and one is open
  -- or depends on another
  pub data IsStatusOf : Status → Type 0 where
    all_valid : ((i : ℕ) → i < length functions → LineSays (codes ": valid, ") i) → IsStatusOf status.AllValid
    some_invalid : (i : ℕ) → LineSays (codes ": invalid, ") i → IsStatusOf status.SomeInvalid
    some_open : ((i : ℕ) → LineSays (codes ": invalid, ") i → ⊥) → (i : ℕ)
        → LineSays (codes ": open ") i ⊎ LineSays (codes ": depends on ") i → IsStatusOf status.SomeOpen

-- a line for each function of the program, in order, and one more, the summary, behind them; the status is by the lines
-- of the functions
pub record AreLinesOf (p : Program) (lines : List (List ℕ)) (s : Status) : Type 0 where
  pub size : length lines ≡ length p.functions + 1
  pub names : (i : ℕ) → i < length p.functions → LineSays p.functions lines (codes ": ") i
  pub status : IsStatusOf p.functions lines s

-- ---- what a line claims

-- of a program, a function of it with its number, and the function's line
abbrev pub Claim : Type 1
Claim = Program → ℕ → Function → List ℕ → Type 0

-- the function is good if the line says `valid`: every call that meets the precondition evaluates, with some fuel, to a
-- value that meets the postcondition
abbrev pub ValidIsGood : Claim
ValidIsGood p i f line = Says (codes ": valid, ") f line → IsGood p.types.ctors p.functions f

module _ (limits : Limits) where
  -- the line names a check of the function, and arguments up to the asked depth that fail it, with some fuel that is at
  -- most the asked rounds
  pub record NamesFailure (p : Program) (i : ℕ) (f : Function) (line : List ℕ) : Type 0 where
    pub number : CheckId
    pub own : IsCheckOf p i number.0
    pub args : List Value
    pub fuel : ℕ
    pub asked : fuel ≤ limits.rounds
    pub fails : IsCounterexample p i number fuel limits.depth args
    pub printed : line ≡ invalid_text p.types.ctors f.name own.check.kind own.check.place f.params args

  -- the line names a check of the function, and a round: with this fuel no arguments up to the asked depth fail it
  pub record NamesSearch (p : Program) (i : ℕ) (f : Function) (line : List ℕ) : Type 0 where
    pub number : CheckId
    pub own : IsCheckOf p i number.0
    pub round : ℕ
    pub asked : round ≤ limits.rounds
    pub none : NoLowRunFails p i number round limits.depth
    pub reason : Reason
    pub printed : line ≡ open_text f.name (Some round) own.check.kind own.check.place reason

  -- so it is with a line that says `invalid`
  abbrev pub InvalidFails : Claim
  InvalidFails p i f line = Says (codes ": invalid, ") f line → NamesFailure p i f line

  -- and with one that says `open at round`
  abbrev pub OpenIsSearched : Claim
  OpenIsSearched p i f line = Says (codes ": open at round ") f line → NamesSearch p i f line

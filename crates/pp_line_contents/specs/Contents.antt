-- What the line of a function says of it. Source: own.
use Rattle.std.specs.Prelude.{◌≡◌, ◌<◌, ◌^◌, ℕ, List, Option, Some, None, slice_get}
use Rattle.pp_eval.specs.Runs.{AreArguments}
use Rattle.pp_print.specs.Lines.{depends_text, invalid_text, open_text, valid_text}
use Rattle.pp_print.specs.Values.{Text}
use Rattle.pp_print.specs.declared.line.Reason.{Reason}
use Rattle.pp_prog.specs.declared.expr.Function.{Function}
use Rattle.pp_prog.specs.declared.id.CheckId.{CheckId}
use Rattle.pp_prog.specs.declared.id.FunctionId.{FunctionId}
use Rattle.pp_prog.specs.declared.program.Program.{Program}
use Rattle.pp_prog.specs.declared.value.Value.{Value}
use Rattle.pp_sound.specs.Sound.{IsCheckOf}

-- it is valid, with so many checks; it depends on the function with this number, with so many checks; these arguments
-- fail this check; this check is open after the round that was searched last, if one was, for this reason
pub data Content : Type 0 where
  valid : ℕ → Content
  depending : FunctionId → ℕ → Content
  failed : CheckId → List Value → Content
  left_open : Option ℕ → CheckId → Reason → Content

-- the numbers that are counted have at most 64 bits
abbrev pub IsSmall : ℕ → Type 0
IsSmall n = n < 2 ^ 64

abbrev pub IsSmallRound : Option ℕ → Type 0
IsSmallRound None = Unit {0}
IsSmallRound (Some n) = IsSmall n

-- what the line of a function of a program, with its number, may say
module _ (p : Program) (i : ℕ) (f : Function) (line : Text) where
  pub record PrintsValid (checks : ℕ) : Type 0 where
    pub small : IsSmall checks
    pub text : line ≡ valid_text f.name checks

  -- the function on which it depends is one of the program
  pub record PrintsDepending (g : FunctionId) (checks : ℕ) : Type 0 where
    pub on : Function
    pub here : slice_get p.functions g.0 ≡ Some on
    pub small : IsSmall checks
    pub text : line ≡ depends_text f.name on.name checks

  -- the check is one of the function, and the arguments have the sorts of its parameters
  pub record PrintsFailed (c : CheckId) (args : List Value) : Type 0 where
    pub own : IsCheckOf p i c.0
    pub sorted : AreArguments p.types.ctors (Some f) args
    pub text : line ≡ invalid_text p.types.ctors f.name own.check.kind own.check.place f.params args

  pub record PrintsOpen (searched : Option ℕ) (c : CheckId) (why : Reason) : Type 0 where
    pub own : IsCheckOf p i c.0
    pub small : IsSmallRound searched
    pub text : line ≡ open_text f.name searched own.check.kind own.check.place why

  -- the line prints the content
  abbrev pub Prints : Content → Type 0
  Prints (valid checks) = PrintsValid checks
  Prints (depending g checks) = PrintsDepending g checks
  Prints (failed c args) = PrintsFailed c args
  Prints (left_open searched c why) = PrintsOpen searched c why

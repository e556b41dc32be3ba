-- Type soundness: what holds of the runs of a valid program on arguments of the parameters' sorts. Source: own; the
-- idea is that of Wright and Felleisen, A Syntactic Approach to Type Soundness.
use Rattle.std.specs.Prelude.{◌≡◌, ◌≢◌, ◌<◌, ℕ, IsTrue, List, Option, Some, Ok, Err, length, slice_get}
use Rattle.pp_prog.specs.declared.check.Check.{Check}
use Rattle.pp_prog.specs.declared.expr.Function.{Function}
use Rattle.pp_prog.specs.declared.id.CheckId.{CheckId}
use Rattle.pp_prog.specs.declared.id.FunctionId.{FunctionId}
use Rattle.pp_prog.specs.declared.program.Program.{Program}
use Rattle.pp_prog.specs.declared.value.Value.{Value}
use Rattle.pp_prog.specs.Sorts.{has_sort}
use Rattle.pp_eval.specs.declared.outcome.Outcome.TheVariants.{Deep, Done, Fails, Inner}
use Rattle.pp_eval.specs.declared.outcome.Stop.TheVariants.{Stuck}
use Rattle.pp_eval.specs.Invocation.{calls_over, calls_to}
use Rattle.pp_eval.specs.Meaning.{CallMeaning, Frame}
use Rattle.pp_eval.specs.Runs.{AreArguments, outcome, run, run_with}

-- each call of a function on arguments of the parameters' sorts is answered by a value of the result's sort
pub record AnswersSorted (p : Program) (deeper : CallMeaning) : Type 0 where
  pub answers : (frame : Frame) (g : FunctionId) (pre measure : Option CheckId) (args : List Value) (f : Function)
      → slice_get p.functions g.0 ≡ Some f → AreArguments p.types.ctors (Some f) args
      → (v : Value) × (deeper frame g pre measure args ≡ Ok v) × IsTrue (has_sort p.types.ctors v f.result)

-- f is function number i of the program, and the arguments have the parameters' sorts
pub record IsCalled (p : Program) (i : ℕ) (f : Function) (args : List Value) : Type 0 where
  pub function : slice_get p.functions i ≡ Some f
  pub arguments : AreArguments p.types.ctors (Some f) args

-- no run is stuck, with any fuel: it meets no operator, field, variable, function or site that has no meaning for its
-- values
abbrev pub NeverStuck : Type 0
NeverStuck =
    (p : Program) (i : ℕ) (f : Function) (args : List Value) → IsCalled p i f args → (n : ℕ)
    → run_with (calls_to p.types.ctors p.functions n) f args ≢ Err Stuck

-- Deep comes from want of fuel alone: if the calls that are nested too deep were answered by values of their functions'
-- result sorts, no run would be Deep.
abbrev pub DeepByFuelAlone : Type 0
DeepByFuelAlone =
    (p : Program) (deeper : CallMeaning) → AnswersSorted p deeper → (i : ℕ) (f : Function) (args : List Value)
    → IsCalled p i f args
    → (n : ℕ) → outcome (run_with (calls_over deeper p.types.ctors p.functions n) f args) ≢ Deep

-- calls can be answered so in each program, whose datatypes all have values
abbrev pub CanAnswerSorted : Type 0
CanAnswerSorted = (p : Program) → ∥ ((deeper : CallMeaning) × AnswersSorted p deeper) ∥₁

-- a run that is done has a value of the result's sort
abbrev pub KeepSorts : Type 0
KeepSorts =
    (p : Program) (i : ℕ) (f : Function) (args : List Value) → IsCalled p i f args → (n : ℕ) (v : Value)
    → run p.types.ctors p.functions f args n ≡ Done v → IsTrue (has_sort p.types.ctors v f.result)

-- check number c is listed, as one of function number i
pub record IsCheckOf (p : Program) (i c : ℕ) : Type 0 where
  pub check : Check
  pub listed : slice_get p.checks c ≡ Some check
  pub owner : check.function.0 ≡ i

-- the check that a run fails is one of its function's, and the check that fails inside a called function is one of that
-- function's
pub record FailListedChecks : Type 0 where
  pub own : (p : Program) (i : ℕ) (f : Function) (args : List Value) → IsCalled p i f args → (n : ℕ) (c : CheckId)
      → run p.types.ctors p.functions f args n ≡ Fails c → IsCheckOf p i c.0
  pub inner : (p : Program) (i : ℕ) (f : Function) (args : List Value) → IsCalled p i f args
      → (n : ℕ) (g : FunctionId) (c : CheckId)
      → run p.types.ctors p.functions f args n ≡ Inner g c → (g.0 < length p.functions) × IsCheckOf p g.0 c.0

-- Laws of runs. Source: own.
use Rattle.std.specs.Prelude.{◌≡◌, ◌≢◌, ◌≤◌, ℕ, List, Err}
use Rattle.pp_prog.specs.declared.expr.Expr.{Expr}
use Rattle.pp_prog.specs.declared.expr.Function.{Function}
use Rattle.pp_prog.specs.declared.types.Ctor.{Ctor}
use Rattle.pp_prog.specs.declared.value.Value.{Value}
use Rattle.pp_eval.specs.declared.outcome.Outcome.TheVariants as outcome
use Rattle.pp_eval.specs.declared.outcome.Stop.TheVariants.{Deep}
use Rattle.pp_eval.specs.Invocation.{calls_to, eval}
use Rattle.pp_eval.specs.Meaning.{Frame}
use Rattle.pp_eval.specs.Runs.{run, run_with}

-- an outcome other than Deep stays the same with more fuel
abbrev pub LastsWithFuel : Type 0
LastsWithFuel =
    (ctors : List Ctor) (functions : List Function) (f : Function) (args : List Value) (n m : ℕ) → n ≤ m
    → run ctors functions f args n ≢ outcome.Deep → run ctors functions f args m ≡ run ctors functions f args n

-- what a part of a run comes to stays the same with more fuel, unless it is Deep: an expression that is stuck stays so
pub record PartsLastWithFuel : Type 0 where
  pub expressions : (ctors : List Ctor) (functions : List Function) (n m : ℕ) (frame : Frame) (env : List Value)
      (e : Expr) → n ≤ m → eval ctors functions n frame env e ≢ Err Deep
      → eval ctors functions m frame env e ≡ eval ctors functions n frame env e
  pub runs : (ctors : List Ctor) (functions : List Function) (f : Function) (args : List Value) (n m : ℕ) → n ≤ m
      → run_with (calls_to ctors functions n) f args ≢ Err Deep
      → run_with (calls_to ctors functions m) f args ≡ run_with (calls_to ctors functions n) f args

-- What a run is, and which functions are good. Postconditions of called functions aren't evaluated. Source: Stainless
-- documentation on contracts (require, ensuring); fuel is own.
use Rattle.std.specs.Prelude.{◌≡◌, ◌⊎◌, ℕ, IsTrue, List, [], ◌∷◌, ◌++◌, Option, Some, None, Ok, Err, slice_get}
use Rattle.pp_prog.specs.declared.expr.Expr.{Expr}
use Rattle.pp_prog.specs.declared.expr.Function.{Function}
use Rattle.pp_prog.specs.declared.id.CheckId.{CheckId}
use Rattle.pp_prog.specs.declared.program.Program.{Program}
use Rattle.pp_prog.specs.declared.types.Ctor.{Ctor}
use Rattle.pp_prog.specs.declared.value.Value.{Value}
use Rattle.pp_prog.specs.Sorts.{have_sorts, param_sorts}
use Rattle.pp_eval.specs.declared.outcome.Outcome.{Outcome}
use Rattle.pp_eval.specs.declared.outcome.Outcome.TheVariants.{Done, Outside, Fails, Inner, Deep}
use Rattle.pp_eval.specs.declared.outcome.Stop.TheVariants as stop
use Rattle.pp_eval.specs.Invocation.{allowed, calls_to, framed}
use Rattle.pp_eval.specs.Meaning.{CallMeaning, Frame, meaning}
use Rattle.pp_eval.specs.Operators.{truth}
use Rattle.pp_eval.specs.Part.{Part, and_then, either}

-- how a run ends that a part stopped. An expression without meaning ends it as want of fuel does: no run of a valid
-- program meets one, by the law `never_stuck` of `pp_sound`.
abbrev pub outcome : Part Outcome → Outcome
outcome (Ok o) = o
outcome (Err (stop.Fails c)) = Fails c
outcome (Err (stop.Inner g c)) = Inner g c
outcome (Err stop.Deep) = Deep
outcome (Err stop.Stuck) = Deep

module _ (calls : CallMeaning) where
  -- the postcondition, of the arguments and the result
  abbrev pub finished : Option (CheckId × Expr) → Frame → List Value → Value → Part Outcome
  finished None frame args v = Ok (Done v)
  finished (Some post) frame args v =
      and_then (meaning calls post.1 frame (args ++ v ∷ []))
      (λ p. and_then (truth p) (λ t. either t (Ok (Done v)) (Err (stop.Fails post.0))))

  -- the measure list, the body and the postcondition, where the precondition is true
  abbrev pub started : Function → List Value → Part Outcome
  started f args =
      framed calls (λ frame. frame) (λ frame. Ok tt)
      (λ frame body. and_then body (λ v. finished f.post frame args v)) f args

  -- the run of f, where this is what calls do
  abbrev pub run_with : Function → List Value → Part Outcome
  run_with f args = and_then (allowed calls f.pre args) (λ allows. either allows (started f args) (Ok Outside))

-- the run of f on these arguments with fuel n, in a program of these constructors and functions
abbrev pub run : List Ctor → List Function → Function → List Value → ℕ → Outcome
run ctors functions f args n = outcome (run_with (calls_to ctors functions n) f args)

-- the run of the function with this number
abbrev pub run_at : List Ctor → List Function → Option Function → List Value → ℕ → Outcome
run_at ctors functions None args n = Deep
run_at ctors functions (Some f) args n = run ctors functions f args n

-- the run of function number i of the program
abbrev pub run_in : Program → ℕ → List Value → ℕ → Outcome
run_in p i args n = run_at p.types.ctors p.functions (slice_get p.functions i) args n

-- the arguments have the parameters' sorts
abbrev pub AreArguments : List Ctor → Option Function → List Value → Type 0
AreArguments ctors None args = ⊥
AreArguments ctors (Some f) args = IsTrue (have_sorts ctors args (param_sorts f.params))

-- on all arguments of the parameters' sorts some fuel is enough, and the run isn't allowed or meets the contract
abbrev pub IsGood : List Ctor → List Function → Function → Type 0
IsGood ctors functions f =
    (args : List Value) → AreArguments ctors (Some f) args
    → (n : ℕ) × ((run ctors functions f args n ≡ Outside) ⊎ ((v : Value) × (run ctors functions f args n ≡ Done v)))

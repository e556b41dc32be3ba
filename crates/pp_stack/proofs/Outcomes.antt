-- A run: its precondition, and what comes where that is true.
use Rattle.std.proofs.Common.{◌≡◌, ◌∙◌, ℕ, Bool, true, false, List, Option, Some, None, Result, Ok, Err, refl, sym, ap}
use Rattle.std.proofs.Common.{subst}
use Rattle.std.specs.Option.{option_map}
use Rattle.std.specs.Result.{IfOk}
use Rattle.pp_prog.specs.declared.expr.Function.{Function}
use Rattle.pp_prog.specs.declared.types.Ctor.{Ctor}
use Rattle.pp_prog.specs.declared.value.Value.{Value}
use Rattle.pp_eval.specs.declared.outcome.Halt.{Halt}
use Rattle.pp_eval.specs.declared.outcome.Halt.TheVariants.{Memory, Stopped}
use Rattle.pp_eval.specs.declared.outcome.Outcome.{Outcome}
use Rattle.pp_eval.specs.declared.outcome.Outcome.TheVariants.{Outside}
use Rattle.pp_eval.specs.Meaning.{guarded, meaning}
use Rattle.pp_eval.specs.Part.{Part, Tells, and_then, either}
use Rattle.pp_eval.specs.Runs.{outcome, run_at, run_with, started}
use Rattle.pp_eval.specs.Invocation.{calls_to}
use Rattle.pp_eval.proofs.Outcomes.{run_is}
use Rattle.pp_stack.specs.declared.machine.Machine.{Machine}
use Rattle.pp_stack.specs.declared.todo.Code.{Code}
use Rattle.pp_stack.specs.Left.{calls}
use Rattle.pp_stack.specs.Moves.{Truths}
use Rattle.pp_stack.specs.State.{State, frame_in, root, scope}
use Rattle.pp_stack.proofs.Starts.{root_scope}

module _ (code : Code) (f : Function) (fuel : ℕ) (args : List Value) (s : State) (is : s ≡ root fuel args) where
  -- whether the precondition is true, as a machine evaluates it
  abbrev allows : State → Part Bool
  allows t = guarded (option_map (meaning (calls code t.here.fuel)) f.pre) (frame_in t) (scope t)

  run_is_of : (p : Part Bool) → allows s ≡ p
      → run_with (calls code fuel) f args
      ≡ (let r : Part Outcome = and_then p (λ t. either t (started (calls code fuel) f args) (Ok Outside)) in r)
  run_is_of p told =
      let same : guarded (option_map (meaning (calls code fuel)) f.pre) None args ≡ p =
      sym (ap (guarded (option_map (meaning (calls code fuel)) f.pre) None) (root_scope fuel args))
      ∙ sym (ap allows is) ∙ told in
      ap (λ (q : Part Bool). let r : Part Outcome = and_then q (λ t. either t (started (calls code fuel) f args)
      (Ok Outside)) in r) same

  pub run_begins : (t : Bool) (now : State) → now ≡ s → allows s ≡ Ok t → t ≡ true
      → started (calls code now.here.fuel) f now.env ≡ run_with (calls code fuel) f args
  run_begins t now same told holds =
      ap (λ (u : State). started (calls code u.here.fuel) f u.env) (same ∙ is)
      ∙ sym (run_is_of (Ok t) told ∙ ap (λ (b : Bool). let r : Part Outcome = either b
      (started (calls code fuel) f args) (Ok Outside) in r) holds)

  pub run_outside : (t : Bool) → allows s ≡ Ok t → t ≡ false → run_with (calls code fuel) f args ≡ Ok Outside
  run_outside t told fails =
      run_is_of (Ok t) told ∙ ap (λ (b : Bool). let r : Part Outcome = either b (started (calls code fuel) f args)
      (Ok Outside) in r) fails

  halted : (h : Halt) (m : Machine) → Truths (Err h) s m (allows s)
      → Tells {A = Outcome} (Err h) (run_with (calls code fuel) f args)
  halted Memory m truths = tt
  halted (Stopped stop) m truths = run_is_of (Err stop) truths

  pub run_halts : (m : Machine) (r : Result Outcome Halt) (h : Halt) → r ≡ Err h → Truths (Err h) s m (allows s)
      → Tells r (run_with (calls code fuel) f args)
  run_halts m r h stopped truths =
      subst (λ (q : Result Outcome Halt). Tells q (run_with (calls code fuel) f args)) (sym stopped) (halted h m truths)

-- what a run of a function of the program comes to
pub run_answers : {E : Type 0} (ctors cs : List Ctor) (functions fs : List Function) (f : Function)
    (o : Option Function)
    (args : List Value) (n : ℕ) (r : Result Outcome E) → cs ≡ ctors → fs ≡ functions → o ≡ Some f
    → IfOk r (λ x. x ≡ outcome (run_with (calls_to cs fs n) f args)) → IfOk r (λ x. x ≡ run_at ctors functions o args n)
run_answers ctors cs functions fs f o args n (Ok x) same_ctors same_functions there is =
    is ∙ run_is ctors cs functions fs f o args n (run_with (calls_to cs fs n) f args) same_ctors same_functions there
    refl
run_answers ctors cs functions fs f o args n (Err e) same_ctors same_functions there is = tt

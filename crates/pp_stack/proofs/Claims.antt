-- The postcondition of a result that stays on top while it is evaluated.
use Rattle.std.proofs.Common.{◌≡◌, ◌∙◌, Bool, true, false, List, [], ◌∷◌, ◌++◌, Result, Ok, Err, refl, sym, ap, subst}
use Rattle.pp_prog.specs.declared.expr.Expr.{Expr}
use Rattle.pp_prog.specs.declared.id.CheckId.{CheckId}
use Rattle.pp_prog.specs.declared.value.Value.{Value}
use Rattle.pp_eval.specs.declared.outcome.Halt.{Halt}
use Rattle.pp_eval.specs.declared.outcome.Halt.TheVariants.{Memory, Stopped}
use Rattle.pp_eval.specs.declared.outcome.Stop.TheVariants.{Fails}
use Rattle.pp_eval.specs.Meaning.{meaning}
use Rattle.pp_eval.specs.Operators.{truth}
use Rattle.pp_eval.specs.Part.{Part, and_then, either}
use Rattle.pp_store.specs.declared.held.Held.{Held}
use Rattle.pp_store.specs.Values.{value_of}
use Rattle.pp_stack.specs.declared.machine.Machine.{Machine}
use Rattle.pp_stack.specs.declared.stacks.Stacks.{Stacks}
use Rattle.pp_stack.specs.declared.todo.Code.{Code}
use Rattle.pp_stack.specs.Claims.{claimed}
use Rattle.pp_stack.specs.Heads.{Shows}
use Rattle.pp_stack.specs.Left.{calls, value_in}
use Rattle.pp_stack.specs.Moves.{Pops, Truths}
use Rattle.pp_stack.specs.State.{State, frame_in, popped, pushed, scope, state_of, with_bound}
use Rattle.pp_stack.proofs.Bindings.{scope_bound}
use Rattle.pp_stack.proofs.Going.{popped_pushed}

claimed_is : (check : CheckId) (v : Value) (p : Part Value)
    → claimed check v p ≡ and_then (and_then p truth) (λ t. either t (Ok v) (Err (Fails check)))
claimed_is check v (Ok w) = refl
claimed_is check v (Err stop) = refl

module _ (code : Code) (s : State) (v : Value) (check : CheckId) (claim : Expr) (mid : State)
    (bound : (let p : Part State = Ok (with_bound (v ∷ []) (pushed s v)) in p) ≡ Ok mid) where
  -- the claim, with the result in scope
  abbrev whole : Part Value
  whole = claimed check v (meaning (calls code s.here.fuel) claim (frame_in s) (scope s ++ v ∷ []))

  mid_is : mid ≡ with_bound (v ∷ []) (pushed s v)
  mid_is = cc

  value_is : value_in code claim mid ≡ meaning (calls code s.here.fuel) claim (frame_in s) (scope s ++ v ∷ [])
  value_is =
      ap (value_in code claim) mid_is
      ∙ ap (λ (env : List Value). meaning (calls code s.here.fuel) claim (frame_in s) env)
      (scope_bound (v ∷ []) (pushed s v))

  whole_is : (p : Part Bool) → and_then (value_in code claim mid) truth ≡ p
      → whole ≡ and_then p (λ t. either t (Ok v) (Err (Fails check)))
  whole_is p is =
      ap (claimed check v) (sym value_is) ∙ claimed_is check v (value_in code claim mid)
      ∙ ap (λ (q : Part Bool). let r : Part Value = and_then q (λ t. either t (Ok v) (Err (Fails check))) in r) is

  -- it is false
  pub claim_fails : (t : Bool) → and_then (value_in code claim mid) truth ≡ Ok t → t ≡ false → whole ≡ Err (Fails check)
  claim_fails t is fails =
      whole_is (Ok t) is ∙ ap (λ (b : Bool). let r : Part Value = either b (Ok v) (Err (Fails check)) in r) fails

  -- it stops
  claim_stopped : (h : Halt) (m : Machine) (trees : List Value)
      → Truths (Err h) mid m (and_then (value_in code claim mid) truth) → Shows trees (Err h) whole
  claim_stopped Memory m trees truths = tt
  claim_stopped (Stopped stop) m trees truths = whole_is (Err stop) truths

  pub claim_stops : (r : Result Held Halt) (h : Halt) (m : Machine) (trees : List Value) → r ≡ Err h
      → Truths (Err h) mid m (and_then (value_in code claim mid) truth) → Shows trees r whole
  claim_stops r h m trees is truths =
      subst (λ (q : Result Held Halt). Shows trees q whole) (sym is) (claim_stopped h m trees truths)

  -- it is true: the result is on top
  top_shows : (r : Result Held Halt) (new : Stacks) → whole ≡ Ok v
      → Pops r new (Ok (v, with_bound (v ∷ []) s)) → Shows new.store r whole
  top_shows (Ok held) new is (all, one, same) =
      let pair : (v, with_bound (v ∷ []) s) ≡ (value_of new.store held, state_of new) = cc in
      (one, is ∙ ap (λ (p : Value × State). let r : Part Value = Ok p.0 in r) pair)
  top_shows (Err Memory) new is pops = tt
  top_shows (Err (Stopped stop)) new is pops = cc

  pub claim_holds : (t : Bool) (top : State) (r : Result Held Halt) (new : Stacks) → top ≡ mid
      → and_then (value_in code claim mid) truth ≡ Ok t → t ≡ true → Pops r new (popped top) → Shows new.store r whole
  claim_holds t top r new same is holds pops =
      top_shows r new (whole_is (Ok t) is ∙ ap (λ (b : Bool). let r : Part Value = either b (Ok v) (Err (Fails check))
      in r) holds)
      (subst (λ (p : Part (Value × State)). Pops r new p) (ap popped (same ∙ mid_is)
      ∙ popped_pushed (with_bound (v ∷ []) s) v) pops)

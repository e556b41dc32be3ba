-- What the run of a machine says of the expressions that it was begun with.
use Rattle.std.proofs.Common.{◌≡◌, ◌∙◌, Bool, List, [], ◌∷◌, ◌++◌, Result, Ok, Err, refl, sym, ap, subst}
use Rattle.pp_prog.specs.declared.value.Value.{Value}
use Rattle.pp_eval.specs.declared.outcome.Halt.{Halt}
use Rattle.pp_eval.specs.declared.outcome.Halt.TheVariants.{Memory, Stopped}
use Rattle.pp_eval.specs.declared.outcome.Stop.{Stop}
use Rattle.pp_eval.specs.Operators.{truth}
use Rattle.pp_eval.specs.Part.{Part, and_then}
use Rattle.pp_store.specs.declared.held.Held.{Held}
use Rattle.pp_store.specs.Values.{value_of}
use Rattle.pp_stack.specs.declared.stacks.Stacks.{Stacks}
use Rattle.pp_stack.specs.declared.todo.Code.{Code}
use Rattle.pp_stack.specs.declared.todo.Here.{Here}
use Rattle.pp_stack.specs.declared.todo.Todo.{Todo}
use Rattle.pp_stack.specs.Left.{after, go_on, left}
use Rattle.pp_stack.specs.Moves.{Ends, IsIdle, Pops, Tests, Truths, Values}
use Rattle.pp_stack.specs.State.{State, popped, pushed, state_of, tested}
use Rattle.pp_stack.proofs.Going.{popped_pushed}
use Rattle.pp_stack.proofs.Steps.{machine}
use Rattle.pp_stack.proofs.Todos.{left_push}

-- nothing was left but this
pub left_alone : (code : Code) (old new : List Todo) (t : Todo) → old ≡ [] → new ≡ old ++ t ∷ []
    → left code new ≡ after code t Ok
left_alone code old new t none is =
    left_push code old new t is ∙ ap (λ (ts : List Todo). after code t (left code ts)) none

-- what ends has a value
pub part_ends : {A : Type 0} (here : Here) (go : A → State) (part : Part A) (new : State)
    → go_on here part (λ a. Ok (go a)) ≡ Ok new → (a : A) × (part ≡ Ok a) × (new ≡ go a)
part_ends here go (Ok a) new is = (a, refl, cc)
part_ends here go (Err s) new is = cc

module _ (s : State) (v : Value) where
  -- what was put on top is what is taken from there
  pushed_pops : (r : Result Held Halt) (new : Stacks) → Pops r new (popped (pushed s v))
      → Pops r new (Ok (v, s))
  pushed_pops r new pops =
      subst (λ (p : Part (Value × State)). Pops r new p) (popped_pushed s v) pops

-- a truth value on top, and the rest
truth_tested : (p : Part Bool) (s new : State) (t : Bool)
    → (let q : Part (Bool × State) = and_then p (λ b. Ok (b, s)) in q) ≡ Ok (t, new) → (p ≡ Ok t) × (new ≡ s)
truth_tested (Ok b) s new t is =
    let pair : (t, new) ≡ (b, s) = cc in
    (ap (λ (p : Bool × State). let r : Part Bool = Ok p.0 in r) (sym pair), ap (λ (p : Bool × State). p.1) pair)
truth_tested (Err stop) s new t is = cc

truth_stops : (p : Part Bool) (s : State) (stop : Stop)
    → (let q : Part (Bool × State) = and_then p (λ b. Ok (b, s)) in q) ≡ Err stop → p ≡ Err stop
truth_stops (Ok b) s stop is = cc
truth_stops (Err s) t stop is = cc

pushed_tested : (s : State) (v : Value)
    → tested (pushed s v) ≡ (let q : Part (Bool × State) = and_then (truth v) (λ b. Ok (b, s)) in q)
pushed_tested s v =
    ap (λ (r : Part (Value × State)). let q : Part (Bool × State) = and_then r (λ p. and_then (truth p.0)
    (λ t. Ok (t, p.1))) in q) (popped_pushed s v)

module _ (s : State) (part : Part Value) (whole : Part State)
    (is : whole ≡ go_on s.here part (λ v. Ok (pushed s v))) where
  -- the value that it ends with is on top
  value_taken : (v : Value) (r : Result Held Halt) (todo : List Todo) (new : Stacks) → part ≡ Ok v → todo ≡ []
      → Pops r new (Ok (v, s)) → Values r s (machine todo new) part
  value_taken v (Ok held) todo new some none (all, one, same) =
      let pair : (v, s) ≡ (value_of new.store held, state_of new) = cc in
      let here : state_of new ≡ s = sym (ap (λ (p : Value × State). p.1) pair) in
      let value : value_of new.store held ≡ v = sym (ap (λ (p : Value × State). p.0) pair) in
      let idle : IsIdle (machine todo new) s = record { none = none; stand = record { all = all; same = here } } in
      (idle, one, some ∙ ap (λ (x : Value). let r : Part Value = Ok x in r) (sym value))
  value_taken v (Err Memory) todo new some none pops = tt
  value_taken v (Err (Stopped stop)) todo new some none pops = cc

  pub value_ends : {A : Type 0} (a : A) (r : Result Held Halt) (todo : List Todo) (mid new : Stacks)
      → Ends (Ok a) (machine todo mid) whole → Pops r new (popped (state_of mid)) → Values r s (machine todo new) part
  value_ends a r todo mid new (all, none, ends) pops =
      let p = part_ends s.here (pushed s) part (state_of mid) (sym is ∙ ends) in
      value_taken p.0 r todo new p.1 none (pushed_pops s p.0 r new
      (subst (λ (st : State). Pops r new (popped st)) p.2 pops))

  truth_taken : (v : Value) (r : Result Bool Halt) (todo : List Todo) (new : Stacks) → part ≡ Ok v → todo ≡ []
      → Tests r new (let q : Part (Bool × State) = and_then (truth v) (λ b. Ok (b, s)) in q)
      → Truths r s (machine todo new) (and_then part truth)
  truth_taken v (Ok t) todo new some none (all, same) =
      let b = truth_tested (truth v) s (state_of new) t same in
      let idle : IsIdle (machine todo new) s = record { none = none; stand = record { all = all; same = b.1 } } in
      (idle, ap (λ (p : Part Value). and_then p truth) some ∙ b.0)
  truth_taken v (Err Memory) todo new some none tests = tt
  truth_taken v (Err (Stopped stop)) todo new some none tests =
      ap (λ (p : Part Value). and_then p truth) some ∙ truth_stops (truth v) s stop tests

  pub truth_ends : {A : Type 0} (a : A) (r : Result Bool Halt) (todo : List Todo) (mid new : Stacks)
      → Ends (Ok a) (machine todo mid) whole → Tests r new (tested (state_of mid))
      → Truths r s (machine todo new) (and_then part truth)
  truth_ends a r todo mid new (all, none, ends) tests =
      let p = part_ends s.here (pushed s) part (state_of mid) (sym is ∙ ends) in
      truth_taken p.0 r todo new p.1 none (subst (λ (q : Part (Bool × State)). Tests r new q)
      (ap tested p.2 ∙ pushed_tested s p.0) tests)

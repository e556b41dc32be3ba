-- A case that is tried comes to what is made of its pattern, its guard and its body.
use Rattle.std.proofs.Common.{◌≡◌, ◌∙◌, Bool, true, false, List, ◌∷◌, ◌++◌, Option, Some, None, Ok, refl, sym, ap, map}
use Rattle.std.specs.Prelude.{length}
use Rattle.std.specs.Option.{option_map}
use Rattle.pp_prog.specs.declared.expr.Case.{Case}
use Rattle.pp_prog.specs.declared.expr.Expr.{Expr}
use Rattle.pp_prog.specs.declared.expr.Expr.TheFolds.{fold_out-Case, map-Case}
use Rattle.pp_prog.specs.declared.id.CheckId.{CheckId}
use Rattle.pp_prog.specs.declared.expr.Pattern.{Pattern}
use Rattle.pp_prog.specs.declared.value.Value.{Value}
use Rattle.pp_prog.specs.Fits.{fit}
use Rattle.pp_eval.specs.Meaning.{Arm, CallMeaning, Meaning, arm, arm_step, attempt_with, first_case, meaning}
use Rattle.pp_eval.specs.Meaning.{meaning_step, or_next, taken}
use Rattle.pp_eval.specs.Operators.{truth}
use Rattle.pp_eval.specs.Part.{Part, and_then, either}
use Rattle.pp_stack.specs.declared.todo.Code.{Code}
use Rattle.pp_stack.specs.Left.{Rest, calls, choose, chosen, decided, evaluate, forget, go_on}
use Rattle.pp_stack.specs.State.{State, forgotten, frame_in, popped, pushed, scope, with_bound}
use Rattle.pp_stack.proofs.Going.{go_on_along, go_on_then, popped_pushed, tested_pushed}
use Rattle.pp_stack.proofs.Bindings.{evaluate_bound, forgotten_bound, scope_bound}

module _ (calls : CallMeaning) where
  -- a case with the meanings of its parts
  abbrev arm_with : Pattern → Option Expr → Expr → Arm
  arm_with p guard body = record { pattern = p; guard = option_map (meaning calls) guard; body = meaning calls body }

  arm_parts : (p : Pattern) (guard : Option Expr) (body : Expr)
      → arm_step (map-Case Expr Case Meaning Arm (meaning calls) (arm calls)
      (record { pattern = p; guard = guard; body = body })) ≡ arm_with p guard body
  arm_parts p None body = refl
  arm_parts p (Some e) body = refl

  pub arm_is : (c : Case) → arm calls c ≡ arm_with c.pattern c.guard c.body
  arm_is c = fold_out-Case Meaning Arm (meaning_step calls) arm_step c ∙ arm_parts c.pattern c.guard c.body

module _ (code : Code) (cs : List Case) (check : Option CheckId) (k : Rest) (v : Value) (s : State) where
  -- with the value on top the cases are tried
  pub chosen_again : choose code cs check k (pushed s v) ≡ chosen code cs check k v s
  chosen_again =
      ap (λ (r : Part (Value × State)). go_on s.here r (λ p. chosen code cs check k p.0 p.1)) (popped_pushed s v)

  abbrev others : Part Value
  others = first_case (map (arm (calls code s.here.fuel)) cs) check v (frame_in s) (scope s)

  abbrev m : Expr → List Value → Part Value
  m e env = meaning (calls code s.here.fuel) e (frame_in s) env

  abbrev top : Value → Part State
  top w = k (pushed s w)

  abbrev or_others : Option Value → Part State
  or_others o = go_on s.here (or_next o others) top

  taken_or : (t : Bool) (body : Part Value)
      → go_on s.here (taken t body) or_others ≡ either t (go_on s.here body top) (go_on s.here others top)
  taken_or true body = go_on_then s.here body (λ w. Ok (Some w)) or_others
  taken_or false body = refl

  module _ (c : Case) where
    -- the case, whose pattern binds this
    abbrev tried : Option Expr → Option (List Value) → Part State
    tried guard o =
        go_on s.here (and_then (attempt_with o (arm_with (calls code s.here.fuel) c.pattern guard c.body) (frame_in s)
        (scope s)) (λ r. or_next r others)) top

    chosen_tried : chosen code (c ∷ cs) check k v s ≡ tried c.guard (fit c.pattern v)
    chosen_tried =
        ap (λ (a : Arm). go_on s.here (first_case (a ∷ map (arm (calls code s.here.fuel)) cs) check v (frame_in s)
        (scope s)) top) (arm_is (calls code s.here.fuel) c)

    -- the pattern doesn't fit
    pub chosen_misfit : fit c.pattern v ≡ None → chosen code (c ∷ cs) check k v s ≡ choose code cs check k (pushed s v)
    chosen_misfit is = chosen_tried ∙ ap (tried c.guard) is ∙ sym chosen_again

    -- the pattern fits, and there is no guard
    pub chosen_taken : (vs : List Value) → fit c.pattern v ≡ Some vs → c.guard ≡ None
        → chosen code (c ∷ cs) check k v s ≡ evaluate code c.body (forget (length vs) k) (with_bound vs s)
    chosen_taken vs fits none =
        chosen_tried ∙ ap (tried c.guard) fits ∙ ap (λ (g : Option Expr). tried g (Some vs)) none
        ∙ go_on_then s.here (taken true (m c.body (scope s ++ vs))) (λ r. or_next r others) top
        ∙ taken_or true (m c.body (scope s ++ vs))
        ∙ sym (evaluate_bound code c.body vs k s)

    -- what is decided by the guard's value
    decided_is : (vs : List Value) (w : Value)
        → decided code c.body cs check (length vs) k (pushed (pushed (with_bound vs s) v) w)
        ≡ go_on s.here (truth w) (λ t. either t (go_on s.here (m c.body (scope s ++ vs)) top) (go_on s.here others top))
    decided_is vs w =
        let t : State = with_bound vs s in
        tested_pushed (pushed t v) w (λ p. either p.0
        (go_on s.here (popped p.1) (λ q. evaluate code c.body (forget (length vs) k) q.1))
        (choose code cs check k (forgotten (length vs) p.1)))
        ∙ go_on_along s.here (truth w) _ _ (λ b.
        ap (λ (r : Part (Value × State)). either b
        (go_on s.here r (λ q. evaluate code c.body (forget (length vs) k) q.1))
        (choose code cs check k (forgotten (length vs) (pushed t v)))) (popped_pushed t v)
        ∙ ap (λ (r : Part State). either b r (choose code cs check k (forgotten (length vs) (pushed t v))))
        (evaluate_bound code c.body vs k s)
        ∙ ap (λ (r : Part State). either b (go_on s.here (m c.body (scope s ++ vs)) top) r)
        (ap (choose code cs check k) (forgotten_bound vs s v) ∙ chosen_again))

    -- the pattern fits, and the guard decides
    pub chosen_guarded : (vs : List Value) (g : Expr) → fit c.pattern v ≡ Some vs → c.guard ≡ Some g
        → chosen code (c ∷ cs) check k v s
        ≡ evaluate code g (decided code c.body cs check (length vs) k) (pushed (with_bound vs s) v)
    chosen_guarded vs g fits some =
        let env = scope s ++ vs in
        let body = m c.body env in
        chosen_tried ∙ ap (tried c.guard) fits ∙ ap (λ (o : Option Expr). tried o (Some vs)) some
        ∙ go_on_then s.here (and_then (and_then (m g env) truth) (λ t. taken t body)) (λ r. or_next r others) top
        ∙ go_on_then s.here (and_then (m g env) truth) (λ t. taken t body) or_others
        ∙ go_on_then s.here (m g env) truth (λ t. go_on s.here (taken t body) or_others)
        ∙ go_on_along s.here (m g env) _ _ (λ w. go_on_along s.here (truth w) _ _ (λ t. taken_or t body)
        ∙ sym (decided_is vs w))
        ∙ ap (λ (e : List Value). go_on s.here (m g e) (λ w. decided code c.body cs check (length vs) k
        (pushed (pushed (with_bound vs s) v) w))) (sym (scope_bound vs s))

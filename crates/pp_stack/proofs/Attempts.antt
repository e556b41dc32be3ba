-- What an attempt at a case leaves to come is what the cases come to.
use Rattle.std.proofs.Common.{◌≡◌, ◌∙◌, ℕ, List, [], ◌∷◌, Option, Some, None, Ok, sym, ap, subst, length}
use Rattle.pp_prog.specs.declared.expr.Case.{Case}
use Rattle.pp_prog.specs.declared.expr.Expr.{Expr}
use Rattle.pp_prog.specs.declared.id.CheckId.{CheckId}
use Rattle.pp_prog.specs.declared.value.Value.{Value}
use Rattle.pp_prog.specs.Fits.{fit}
use Rattle.pp_eval.specs.Part.{Part}
use Rattle.pp_store.specs.declared.held.Held.{Held}
use Rattle.pp_store.specs.Values.{value_of}
use Rattle.pp_stack.specs.declared.todo.Code.{Code}
use Rattle.pp_stack.specs.Left.{Rest, choose, chosen, decided, evaluate, forget}
use Rattle.pp_stack.specs.declared.stacks.Stacks.{Stacks}
use Rattle.pp_stack.specs.Moves.{Binds}
use Rattle.pp_stack.specs.State.{State, bound_one, pushed, with_bound}
use Rattle.pp_stack.proofs.Going.{bound_pushed}
use Rattle.pp_stack.proofs.Cases.{chosen_guarded, chosen_misfit, chosen_taken}

-- the same value, held in the same store, is put on top
put_again : (s mid new : State) (old store : List Value) (h : Held) → mid ≡ s → store ≡ old
    → (let p : Part State = Ok (pushed mid (value_of store h)) in p) ≡ Ok new → new ≡ pushed s (value_of old h)
put_again s mid new old store h same trees put =
    let is : new ≡ pushed mid (value_of store h) = cc in
    is ∙ ap (λ (t : State). pushed t (value_of store h)) same
    ∙ ap (λ (ts : List Value). pushed s (value_of ts h)) trees

module _ (code : Code) (k : Rest) (s : State) (c : Case) (cs : List Case) (check : Option CheckId) (old : List Value)
    (h : Held) where
  -- the pattern doesn't fit: the value is put on top again
  pub attempt_misfit : (mid new : State) (store : List Value) → fit c.pattern (value_of old h) ≡ None → mid ≡ s
      → store ≡ old → (let p : Part State = Ok (pushed mid (value_of store h)) in p) ≡ Ok new
      → choose code cs check k new ≡ chosen code (c ∷ cs) check k (value_of old h) s
  attempt_misfit mid new store none same trees put =
      ap (choose code cs check k) (put_again s mid new old store h same trees put)
      ∙ sym (chosen_misfit code cs check k (value_of old h) s c none)

  -- it fits, and there is no guard
  pub attempt_taken : (mid : State) (vs : List Value) (count : ℕ) → fit c.pattern (value_of old h) ≡ Some vs
      → count ≡ length vs → mid ≡ with_bound vs s → c.guard ≡ None
      → evaluate code c.body (forget count k) mid ≡ chosen code (c ∷ cs) check k (value_of old h) s
  attempt_taken mid vs count fits many same none =
      ap (evaluate code c.body (forget count k)) same
      ∙ ap (λ (n : ℕ). evaluate code c.body (forget n k) (with_bound vs s)) many
      ∙ sym (chosen_taken code cs check k (value_of old h) s c vs fits none)

  -- it fits, and the guard is evaluated with the value below
  pub attempt_guarded : (mid new : State) (store : List Value) (vs : List Value) (count : ℕ) (g : Expr)
      → fit c.pattern (value_of old h) ≡ Some vs → count ≡ length vs → mid ≡ with_bound vs s → store ≡ old
      → (let p : Part State = Ok (pushed mid (value_of store h)) in p) ≡ Ok new → c.guard ≡ Some g
      → evaluate code g (decided code c.body cs check count k) new
      ≡ chosen code (c ∷ cs) check k (value_of old h) s
  attempt_guarded mid new store vs count g fits many same trees put some =
      ap (evaluate code g (decided code c.body cs check count k))
      (put_again (with_bound vs s) mid new old store h same trees put)
      ∙ ap (λ (n : ℕ). evaluate code g (decided code c.body cs check n k) (pushed (with_bound vs s) (value_of old h)))
      many
      ∙ sym (chosen_guarded code cs check k (value_of old h) s c vs g fits some)

-- what the call that binds a pattern's values says, by its answer
pub binds_none : (o : Option ℕ) (s : State) (new : Stacks) (b : Option (List Value)) → o ≡ None → Binds o s new b
    → Binds None s new b
binds_none o s new b is = subst (λ (p : Option ℕ). Binds p s new b) is

pub binds_some : (o : Option ℕ) (n : ℕ) (s : State) (new : Stacks) (b : Option (List Value)) → o ≡ Some n
    → Binds o s new b → Binds (Some n) s new b
binds_some o n s new b is = subst (λ (p : Option ℕ). Binds p s new b) is

-- a value that is put on top twice, and bound once
pub bound_again : (s mid new : State) (old store : List Value) (h : Held)
    → (let p : Part State = Ok (pushed s (value_of old h)) in p) ≡ Ok mid → store ≡ old
    → (let p : Part State = Ok (pushed mid (value_of store h)) in p) ≡ Ok new
    → bound_one new ≡ Ok (with_bound (value_of old h ∷ []) (pushed s (value_of old h)))
bound_again s mid new old store h once trees twice =
    let first : mid ≡ pushed s (value_of old h) = cc in
    ap bound_one (put_again (pushed s (value_of old h)) mid new old store h first trees twice)
    ∙ bound_pushed (pushed s (value_of old h)) (value_of old h)

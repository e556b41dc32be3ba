-- An expression comes to what is left after its plan was put there; and lists by their first item.
use Rattle.std.proofs.Common.{◌≡◌, ◌∙◌, ℕ, List, ◌∷◌, sym, ap, arith}
use Rattle.std.specs.Prelude.{◌≤◌, ◌-◌, drop, get_or, length, take}
use Rattle.std.proofs.lemmas.List.{drop_more, length-drop, take_all}
use Rattle.pp_prog.specs.declared.expr.Expr.{Expr}
use Rattle.pp_stack.specs.declared.todo.Code.{Code}
use Rattle.pp_stack.specs.Left.{Rest, evaluate, plan}
use Rattle.pp_stack.specs.State.{State}
use Rattle.pp_stack.proofs.Plans.{plan_is}

module _ (code : Code) (k : Rest) (s : State) (e : Expr) where
  -- what is left after its plan was put there
  pub evaluates_plan : (first : ℕ) (new : Rest) → length s.temps ≡ first → new ≡ plan code e first k
      → evaluate code e k s ≡ new s
  evaluates_plan first new count is =
      plan_is code s k e ∙ ap (λ (n : ℕ). plan code e n k s) count ∙ sym (ap (λ (f : Rest). f s) is)

-- a list by its first item and the others
pub first_and_others : {X : Type 0} (xs : List X) (x : X) → 1 ≤ length xs → x ≡ get_or xs 0 x
    → xs ≡ x ∷ take (length xs - 1) (drop 1 xs)
first_and_others xs x some is =
    drop_more xs 0 x (omega (arith, some)) ∙ ap (λ (y : _). y ∷ drop 1 xs) (sym is)
    ∙ ap (λ (ys : List _). x ∷ ys) (sym (take_all (length xs - 1) (drop 1 xs) (omega (arith, length-drop 1 xs))))

-- What it tells that a step of the computation gives a typing.
use Rattle.std.proofs.Common.{◌≡◌, ◌∙◌, ℕ, List, [], ◌∷◌, Ok, Err, Option, Some, None, Bool, true, false, refl, sym, ap}
use Rattle.std.proofs.Common.{subst, length, arith}
use Rattle.std.specs.Prelude.{if◌then◌else◌}
use Rattle.pp_fault.specs.declared.Rule.{Rule}
use Rattle.pp_fault.specs.declared.Rule.TheVariants.{NotABoolean}
use Rattle.pp_fault.specs.Part.{Part, and_then}
use Rattle.pp_fault.proofs.Parts.{goes, same_ok}
use Rattle.pp_generic.proofs.Equal.{equal_same, equal_self}
use Rattle.pp_generic.specs.declared.expected.Expected.{Expected}
use Rattle.pp_typed.specs.Equal.{equal}
use Rattle.pp_generic.specs.Expected.{fits}
use Rattle.pp_rules.specs.Elab.{agreed, condition, flaw, is_sort, of_sort, unless}
use Rattle.pp_rules.specs.Scope.{Env}
use Rattle.pp_rules.specs.Typing.{Suits}
use Rattle.pp_tree.specs.Plain.{Word}
use Rattle.pp_typed.specs.declared.expr.TypedExpr.{TypedExpr}
use Rattle.pp_typed.specs.declared.sort.GenericSort.{GenericSort}
use Rattle.pp_typed.specs.declared.sort.GenericSort.TheVariants as sort

pub then_ok : {A B : Type 0} (p : Part A) (go : A → Part B) (b : B) → and_then p go ≡ Ok b
    → (a : A) × (p ≡ Ok a) × (go a ≡ Ok b)
then_ok (Ok a) go b h = (a, refl, h)
then_ok (Err f) go b h = cc

module _ (env : Env) where
  pub unless_ok : {A : Type 0} (b : Bool) (rule : Rule) (w : Word) (at : ℕ) (x : Part A) (e : A)
      → unless env b rule w at x ≡ Ok e → (b ≡ true) × (x ≡ Ok e)
  unless_ok true rule w at x e h = (refl, h)
  unless_ok false rule w at x e h = cc

  pub unless_true : {A : Type 0} (b : Bool) (rule : Rule) (w : Word) (at : ℕ) (x : Part A)
      → b ≡ true → unless env b rule w at x ≡ x
  unless_true true rule w at x h = refl
  unless_true false rule w at x h = cc

  pub fresh_ok : {A : Type 0} (b : Bool) (rule : Rule) (w : Word) (at : ℕ) (x : Part A) (e : A)
      → (if b then flaw env rule w at else x) ≡ Ok e → (b ≡ false) × (x ≡ Ok e)
  fresh_ok true rule w at x e h = cc
  fresh_ok false rule w at x e h = (refl, h)

  pub fresh_false : {A : Type 0} (b : Bool) (x y : Part A) → b ≡ false → (if b then x else y) ≡ y
  fresh_false true x y h = cc
  fresh_false false x y h = refl

  pub agreed_ok : (x : Expected) (w : Word) (t e : TypedExpr) → agreed env x w t ≡ Ok e → Suits x t.of × (t ≡ e)
  agreed_ok x w t e h = let q = unless_ok (fits x t.of) _ _ _ _ e h in (q.0, same_ok t e q.1)

  pub agreed_suits : (x : Expected) (w : Word) (t : TypedExpr) → Suits x t.of → agreed env x w t ≡ Ok t
  agreed_suits x w t h = unless_true (fits x t.of) _ _ _ _ h

  pub of_sort_ok : (rule : Rule) (s : GenericSort) (w : Word) (t e : TypedExpr)
      → of_sort env rule s w t ≡ Ok e → (t.of ≡ s) × (t ≡ e)
  of_sort_ok rule s w t e h =
      let q = unless_ok (equal s t.of) _ _ _ _ e h in (sym (equal_same s t.of q.0), same_ok t e q.1)

  pub equal_of : (s t : GenericSort) → s ≡ t → equal s t ≡ true
  equal_of s t e = subst (λ u. equal s u ≡ true) e (equal_self s)

  pub of_sort_is : (rule : Rule) (s : GenericSort) (w : Word) (t : TypedExpr) → t.of ≡ s → of_sort env rule s w t ≡ Ok t
  of_sort_is rule s w t e = unless_true (equal s t.of) _ _ _ _ (equal_of s t.of (sym e))

  pub condition_ok : (w : Word) (p : Part TypedExpr) (e : TypedExpr)
      → condition env w p ≡ Ok e → (p ≡ Ok e) × (e.of ≡ sort.Bool)
  condition_ok w p e h =
      let t = then_ok p (of_sort env NotABoolean sort.Bool w) e h in
      let q = of_sort_ok NotABoolean sort.Bool w t.0 e t.2 in
      (t.1 ∙ ap Ok q.1, subst (λ u. u.of ≡ sort.Bool) q.1 q.0)

  pub condition_is : (w : Word) (p : Part TypedExpr) (e : TypedExpr) → p ≡ Ok e → e.of ≡ sort.Bool
      → condition env w p ≡ Ok e
  condition_is w p e h is = goes p (of_sort env NotABoolean sort.Bool w) e h ∙ of_sort_is NotABoolean sort.Bool w e is

  pub is_sort_some : (o : Option GenericSort) (t : GenericSort) → is_sort env o t ≡ true → o ≡ Some t
  is_sort_some None t h = cc
  is_sort_some (Some s) t h = ap Some (equal_same s t h)

  pub is_sort_is : (o : Option GenericSort) (t : GenericSort) → o ≡ Some t → is_sort env o t ≡ true
  is_sort_is o t e = ap (λ u. is_sort env u t) e ∙ equal_self t

-- a list of no elements
pub nothing_left : {X : Type 0} (xs : List X) → 0 ≡ length xs → xs ≡ []
nothing_left [] h = refl
nothing_left (x ∷ xs) h = absurd (omega (arith, h))

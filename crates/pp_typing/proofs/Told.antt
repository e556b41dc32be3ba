-- What calls that may be out of memory tell, along equations.
use Rattle.std.proofs.Common.{◌≡◌, ◌∙◌, ℕ, suc, List, [], ◌∷◌, length, map, Ok, Err, Result, Some, Bool}
use Rattle.std.proofs.Common.{true, false, refl, ap, subst, nat_eq, eq-eqb, ◌==◌}
use Rattle.std.proofs.lemmas.Bool.{eqb-true}
use Rattle.pp_fault.specs.declared.Halt.{Halt}
use Rattle.pp_fault.specs.declared.Halt.TheVariants.{Memory, Broken}
use Rattle.pp_fault.specs.declared.Rule.TheVariants.{Arity}
use Rattle.pp_fault.specs.Part.{Part, Tells, and_then}
use Rattle.pp_generic.specs.declared.expected.Expected.{Expected}
use Rattle.pp_generic.specs.Expected.{Found, every}
use Rattle.pp_typed.specs.Put.{put}
use Rattle.pp_names.specs.Places.{Word}
use Rattle.pp_rules.specs.declared.callee.Callee.{Callee}
use Rattle.pp_rules.specs.Elab.{agreed, field_of_ctor, field_placed, field_typed, finished, flaw, inferred, selected}
use Rattle.pp_rules.specs.Elab.{started, typed, unless}
use Rattle.pp_rules.specs.Scope.{Env}
use Rattle.pp_rules.specs.Shapes.{application, field_place, field_sort, only_ctor}
use Rattle.pp_rules.specs.Written.{written_from}
use Rattle.pp_sorts.proofs.Sizes.{count_of}
use Rattle.pp_sorts.specs.SortOf.{sort_of, sorts_from}
use Rattle.pp_tree.specs.declared.type_text.TypeText.{TypeText}
use Rattle.pp_tree.specs.Plain.{TypeTree, TypeTrees}
use Rattle.pp_tree.specs.Shown.{type_of, type_trees}
use Rattle.pp_typed.specs.declared.expr.TypedExpr.{TypedExpr}
use Rattle.pp_typed.specs.declared.expr.TypedKind.TheVariants as kind
use Rattle.pp_typed.specs.declared.sort.GenericSort.{GenericSort}
use Rattle.pp_typed.specs.declared.sort.GenericSort.TheVariants as sort
use Rattle.pp_typed.specs.declared.sort.GenericSort.TheViews.{out-GenericSort}
use Rattle.pp_typed.specs.declared.typed.TypedRoot.{TypedRoot}
use Rattle.pp_typing.specs.Views.{TellsBoth}

pub both_along : {A B : Type 0} (r : Result A Halt) (b : B) (p q : Part (A × B)) → q ≡ p → TellsBoth r b p
    → TellsBoth r b q
both_along (Ok a) b p q e told = e ∙ told
both_along (Err Memory) b p q e told = tt
both_along (Err (Broken s)) b p q e told = e ∙ told

pub sort_told : (r : Result GenericSort Halt) (roots roots2 : List TypedRoot) (params params2 : List Word)
    (source source2 : ℕ) (t : TypeTree)
    → roots ≡ roots2 → params ≡ params2 → source ≡ source2 → Tells r (sort_of roots params source t)
    → Tells r (sort_of roots2 params2 source2 t)
sort_told r roots roots2 params params2 source source2 t a b c told =
    subst (λ z. Tells r (sort_of z params2 source2 t)) a
    (subst (λ z. Tells r (sort_of roots z source2 t)) b (subst (λ z. Tells r (sort_of roots params z t)) c told))

pub sorts_told : (r : Result (List GenericSort) Halt) (roots roots2 : List TypedRoot) (params params2 : List Word)
    (source source2 : ℕ) (ts : TypeTrees)
    → roots ≡ roots2 → params ≡ params2 → source ≡ source2 → Tells r (sorts_from roots params source [] ts)
    → Tells r (sorts_from roots2 params2 source2 [] ts)
sorts_told r roots roots2 params params2 source source2 ts a b c told =
    subst (λ z. Tells r (sorts_from z params2 source2 [] ts)) a
    (subst (λ z. Tells r (sorts_from roots z source2 [] ts)) b (subst (λ z. Tells r
    (sorts_from roots params z [] ts)) c told))

module _ (env : Env) where
  pub unless_false : {A : Type 0} (b : Bool) (w : Word) (at : ℕ) (x : Part A) → b ≡ false
      → unless env b Arity w at x ≡ flaw env Arity w at
  unless_false true w at x h = cc
  unless_false false w at x h = refl

  pub unless_true : {A : Type 0} (b : Bool) (w : Word) (at : ℕ) (x : Part A) → b ≡ true → unless env b Arity w at x ≡ x
  unless_true true w at x h = refl
  unless_true false w at x h = cc

  pub differ : (m n : ℕ) → (m ≡ n → ⊥) → nat_eq m n ≡ false
  differ m n h = by_test (nat_eq m n) refl
    where
      by_test : (b : Bool) → nat_eq m n ≡ b → b ≡ false
      by_test true e = absurd (h (eqb-true m n e))
      by_test false e = refl

  some_started : (at : ℕ) (x : Expected) (w : Word) (ts : List TypeText) (c : Callee) → (length ts == 0) ≡ false
      → started env at x w (type_trees (map type_of ts)) c
      ≡ unless env (nat_eq (length ts) c.type_params) Arity w at
      (and_then (written_from env [] (type_trees (map type_of ts))) (λ sorts. Ok (map Some sorts)))
  some_started at x w [] c h = cc
  some_started at x w (t ∷ ts) c h =
      ap (λ n. unless env (nat_eq n c.type_params) Arity w at (and_then (written_from env [] (type_trees
      (map type_of (t ∷ ts)))) (λ sorts. Ok (map Some sorts))))
      (ap suc (count_of ts))

  pub started_arity : (at : ℕ) (x : Expected) (w : Word) (ts : List TypeText) (c : Callee) → (length ts == 0) ≡ false
      → (length ts ≡ c.type_params → ⊥) → started env at x w (type_trees (map type_of ts)) c ≡ flaw env Arity w at
  started_arity at x w ts c some h =
      some_started at x w ts c some ∙ unless_false (nat_eq (length ts) c.type_params) w at _ (differ
      (length ts) c.type_params h)

  pub started_sorts : (at : ℕ) (x : Expected) (w : Word) (ts : List TypeText) (c : Callee) → (length ts == 0) ≡ false
      → length ts ≡ c.type_params
      → started env at x w (type_trees (map type_of ts)) c
      ≡ and_then (written_from env [] (type_trees (map type_of ts))) (λ sorts. Ok (map Some sorts))
  started_sorts at x w ts c some h =
      some_started at x w ts c some ∙ unless_true (nat_eq (length ts) c.type_params) w at _ (eq-eqb
      (length ts) c.type_params h)

  pub finished_at : (at : ℕ) (x : Expected) (w : Word) (c : Callee) (es : List TypedExpr) (found : Found)
      (sorts : List GenericSort)
      → every found ≡ Some sorts
      → finished env at x w c (es, found) ≡ agreed env x w (typed env at (put sorts c.result)
      (application c.target sorts es))
  finished_at at x w c es found sorts e = ap (inferred env at x w c es) e

  pub selected_at : (at : ℕ) (x : Expected) (w : Word) (e : TypedExpr) (r : ℕ) (args : List GenericSort) (c j : ℕ)
      (s : GenericSort)
      → e.of ≡ sort.Root r args → only_ctor env.declared r ≡ Some c → field_place env.declared c w ≡ Some j
      → field_sort env.declared c j ≡ Some s
      → selected env at x w e (out-GenericSort e.of) ≡ agreed env x w (typed env at (put args s) (kind.Field e j))
  selected_at at x w e r args c j s is f g h =
      ap (selected env at x w e) (ap out-GenericSort is ∙ sort.outs-Root r args)
      ∙ ap (field_of_ctor env at x w args e) f
      ∙ ap (field_placed env at x w args e c) g ∙ ap (field_typed env at x w args e j) h

-- No match of a typing has more cases than its units have.
use Rattle.std.proofs.Common.{◌≡◌, ◌∙◌, ℕ, suc, ◌+◌, ◌*◌, ◌<◌, ◌≤◌, Bool, true, ◌&&◌, nat_lt, List, [], ◌∷◌, ◌++◌, All}
use Rattle.std.proofs.Common.{Option, Some, None, length, map, refl, ap, arith}
use Rattle.std.proofs.lemmas.Bool.{lt-ltb}
use Rattle.std.proofs.lemmas.List.{length-map}
use Rattle.std.proofs.lemmas.List.Elements.{All-nil, All-cons}
use Rattle.std.specs.List.{list_all}
use Rattle.pp_declared.proofs.Steps.{all_first, all_rest}
use Rattle.pp_declared.specs.Listed.{DeclIn, DefIn, decl_in, decls_from, defs_of}
use Rattle.pp_generic.specs.Expected.{Found}
use Rattle.pp_generic.specs.declared.expected.Expected.{Expected}
use Rattle.pp_rules.specs.declared.callee.Callee.{Callee}
use Rattle.pp_rules.specs.declared.callee.Target.{Target}
use Rattle.pp_rules.specs.declared.callee.Target.TheVariants.{Function, Ctor}
use Rattle.pp_rules.specs.Bodies.{TypesConditions, no_condition, one_condition, TypesMeasure, no_component}
use Rattle.pp_rules.specs.Bodies.{one_component, TypesPost, no_post, a_post, TypesDef, a_def, env_of_def}
use Rattle.pp_rules.specs.Elab.{typed}
use Rattle.pp_rules.specs.Scope.{Env, Scope}
use Rattle.pp_rules.specs.Shapes.{application}
use Rattle.pp_rules.specs.Typing.{Types, an_int, a_bool, a_local, a_name, an_application, a_field, a_prefix}
use Rattle.pp_rules.specs.Typing.{an_operation, a_choice, a_match, a_val, an_assert, Applies, applies, TypesArgs}
use Rattle.pp_rules.specs.Typing.{no_arg, one_arg, TypesCases, no_case, one_case, one_guarded}
use Rattle.pp_tree.specs.Count as tree
use Rattle.pp_tree.specs.Plain.{Tree, Trees, TypeTrees, CaseTrees, DeclTree, root, ctor, other, def, PostTree, UnitTree}
use Rattle.pp_typed.specs.Limits.{case_narrow, expr_narrow, is_narrow, is_narrow_def, is_narrow_post, itself}
use Rattle.pp_typed.specs.Limits.{kind_narrow}
use Rattle.pp_typed.specs.declared.declared.Declared.{Declared}
use Rattle.pp_typed.specs.declared.declared.Signature.{Signature}
use Rattle.pp_typed.specs.declared.expr.TypedCase.{TypedCase}
use Rattle.pp_typed.specs.declared.expr.TypedExpr.{TypedExpr}
use Rattle.pp_typed.specs.declared.expr.TypedKind.{TypedKind}
use Rattle.pp_typed.specs.declared.expr.TypedKind.TheVariants as kind
use Rattle.pp_typed.specs.declared.sort.GenericSort.{GenericSort}
use Rattle.pp_typed.specs.declared.typed.Typed.{Typed}
use Rattle.pp_typed.specs.declared.typed.TypedDef.{TypedDef}
use Rattle.pp_typed.specs.declared.typed.TypedPost.{TypedPost}
use Rattle.pp_typed_forms.proofs.Folds.{of_case, of_kind, assert_is, binary_is, bool_is, call_is, case_is, construct_is}
use Rattle.pp_typed_forms.proofs.Folds.{expr_is, field_is, if_is, int_is, local_is, match_is, unary_is, val_is}
use Rattle.pp_types_laws.specs.Sizes.{HaveFewCases}
use Rattle.pp_types_laws.specs.Typing.{HasTyping, TypesDefs, no_defs, more_defs}

abbrev below : TypedKind → Bool
below = of_kind kind_narrow case_narrow expr_narrow

abbrev in_case : TypedCase → Bool
in_case = of_case kind_narrow case_narrow expr_narrow

both : {a b : Bool} → a ≡ true → b ≡ true → (a && b) ≡ true
both {a} {b} p q = ap (λ x. x && b) p ∙ q

module _ (most : ℕ) (within : most ≤ 4 * 65536) where
  module _ (env : Env) where
    node : (at : ℕ) (of : GenericSort) (k : TypedKind) (b : Bool) → below k ≡ b → b ≡ true
        → is_narrow (typed env at of k) ≡ true
    node at of k b is h = expr_is kind_narrow case_narrow expr_narrow (typed env at of k) ∙ is ∙ h

    application_is : (t : Target) (ss : List GenericSort) (us : List TypedExpr)
        → below (application t ss us) ≡ list_all itself (map is_narrow us)
    application_is (Function i) ss us = call_is kind_narrow case_narrow expr_narrow i ss us
    application_is (Ctor i) ss us = construct_is kind_narrow case_narrow expr_narrow i ss us

    counted : {sc : Scope} {x : Expected} {s of : GenericSort} {cs : CaseTrees} {arms : List TypedCase}
        → TypesCases env sc x s of cs arms → length arms ≡ tree.case_count cs
    counted no_case = refl
    counted (one_case p body is rest) = ap (λ n. suc n) (counted rest) ∙ omega arith
    counted (one_guarded p guard test body is rest) = ap (λ n. suc n) (counted rest) ∙ omega arith

    mutual
      narrow : {sc : Scope} {k : ℕ} {x : Expected} {e : Tree} {u : TypedExpr} → Types env sc k x e u
          → tree.FewCases most e
          → is_narrow u ≡ true
      narrow (an_int at n suits) few = node at _ (kind.Int n) true (int_is kind_narrow case_narrow expr_narrow n) refl
      narrow (a_bool at b suits) few = node at _ (kind.Bool b) true (bool_is kind_narrow case_narrow expr_narrow b) refl
      narrow (a_local at w i l place there suits) few =
          node at l.1 (kind.Local i) true (local_is kind_narrow case_narrow expr_narrow i) refl
      narrow (a_name at w c none is applied) few = narrow_applied applied tt
      narrow (an_application at w c is applied) few = narrow_applied applied few
      narrow (a_field {t = base} at w r c j args s b is only place has suits) few =
          node at _ (kind.Field base j) (is_narrow base) (field_is kind_narrow case_narrow expr_narrow base j)
          (narrow b few)
      narrow (a_prefix {t = operand} at op a is suits) few =
          node at _ (kind.Unary op operand) (is_narrow operand)
          (unary_is kind_narrow case_narrow expr_narrow op operand)
          (narrow a few)
      narrow (an_operation {t = l} {u = r} at op a admitted b taken suits) few =
          node at _ (kind.Binary op l r) (is_narrow l && is_narrow r)
          (binary_is kind_narrow case_narrow expr_narrow op l r)
          (both (narrow a few.0) (narrow b few.1))
      narrow (a_choice {t = t} {u = u} {v = v} at c is a b same) few =
          node at _ (kind.If t u v) (is_narrow t && (is_narrow u && is_narrow v))
          (if_is kind_narrow case_narrow expr_narrow t u v)
          (both (narrow c few.0) (both (narrow a few.1) (narrow b few.2)))
      narrow (a_match {t = t} {c = c} {arms = arms} at s e cases) few =
          let bools = map in_case (c ∷ arms) in
          let size : length bools < 65536 = omega (
            arith,
            length-map
                (c ∷ arms) in_case,
            counted cases,
            few.0,
            within,
          ) in
          node at s (kind.Match t (c ∷ arms)) (nat_lt (length bools) 65536 && (is_narrow t && list_all itself bools))
          (match_is kind_narrow case_narrow expr_narrow t (c ∷ arms))
          (both (lt-ltb (length bools) 65536 size) (both (narrow e few.1) (narrow_cases cases few.2)))
      narrow (a_val {u = u} {v = v} at w new wants a b) few =
          node at _ (kind.Val u v) (is_narrow u && is_narrow v) (val_is kind_narrow case_narrow expr_narrow u v)
          (both (narrow a few.0) (narrow b few.1))
      narrow (an_assert {t = t} {u = u} at c is e) few =
          node at _ (kind.Assert t u) (is_narrow t && is_narrow u) (assert_is kind_narrow case_narrow expr_narrow t u)
          (both (narrow c few.0) (narrow e few.1))

      narrow_applied : {sc : Scope} {at : ℕ} {x : Expected} {ts : TypeTrees} {c : Callee} {es : Trees} {u : TypedExpr}
          → Applies env sc at x ts c es u → tree.AllFewCases most es → is_narrow u ≡ true
      narrow_applied {c = c} (applies {us = us} at sorts starts args all suits) few =
          node at _ (application c.target sorts us) (list_all itself (map is_narrow us))
          (application_is c.target sorts us)
          (narrow_args args few)

      narrow_args : {sc : Scope} {ps : List GenericSort} {found after : Found} {es : Trees} {us : List TypedExpr}
          → TypesArgs env sc ps found es us after → tree.AllFewCases most es → list_all itself (map is_narrow us) ≡ true
      narrow_args no_arg few = refl
      narrow_args (one_arg p first is rest) few = both (narrow first few.0) (narrow_args rest few.1)

      narrow_cases : {sc : Scope} {x : Expected} {s of : GenericSort} {cs : CaseTrees} {arms : List TypedCase}
          → TypesCases env sc x s of cs arms → tree.CasesFewCases most cs → list_all itself (map in_case arms) ≡ true
      narrow_cases no_case few = refl
      narrow_cases (one_case {q = q} {t = t} p body is rest) few =
          both (case_is kind_narrow case_narrow expr_narrow q None t ∙ narrow body few.0) (narrow_cases rest few.1)
      narrow_cases (one_guarded {q = q} {g = g} {t = t} p guard test body is rest) few =
          both (case_is kind_narrow case_narrow expr_narrow q (Some g) t
          ∙ both (narrow guard few.0) (narrow body few.1))
          (narrow_cases rest few.2)

    narrow_conditions : {sc : Scope} {cs : List Tree} {ts : List TypedExpr} → TypesConditions env sc cs ts
        → tree.ListFewCases most cs → list_all is_narrow ts ≡ true
    narrow_conditions no_condition few = refl
    narrow_conditions (one_condition first is rest) few = both (narrow first few.0) (narrow_conditions rest few.1)

    narrow_measure : {sc : Scope} {cs : List Tree} {ts : List TypedExpr} → TypesMeasure env sc cs ts
        → tree.ListFewCases most cs → list_all is_narrow ts ≡ true
    narrow_measure no_component few = refl
    narrow_measure (one_component first rest) few = both (narrow first few.0) (narrow_measure rest few.1)

    narrow_post : {sc : Scope} {s : GenericSort} {p : Option PostTree} {q : Option TypedPost} → TypesPost env sc s p q
        → tree.PostFewCases most p → is_narrow_post q ≡ true
    narrow_post no_post few = refl
    narrow_post (a_post p free written claim is) few = narrow claim few

  -- each match of a function of the units
  abbrev DefFew : DefIn → Type 0
  DefFew d = tree.DeclFewCases most (def d.def)

  narrow_def : (declared : Declared) (d : DefIn) (s : Signature) (t : TypedDef)
      → TypesDef declared d.source d.def s t → DefFew d
      → is_narrow_def t ≡ true
  narrow_def declared d s t (a_def conditions components expression claim) few =
      let env = env_of_def declared d.source d.def in
      both (narrow_conditions env conditions few.0) (both (narrow_measure env components few.1)
      (both (narrow env expression few.2) (narrow_post env claim few.3)))

  narrow_defs : (declared : Declared) {ds : List DefIn} {ss : List Signature} {ts : List TypedDef}
      → TypesDefs declared ds ss ts
      → All DefFew ds → list_all is_narrow_def ts ≡ true
  narrow_defs declared no_defs few = refl
  narrow_defs declared (more_defs {d} {ds} {s} {ss} {t} {ts} first rest) few =
      both (narrow_def declared d s t first (all_first DefFew d ds few)) (narrow_defs declared rest
      (all_rest DefFew d ds few))

  of_decls : (n : ℕ) (ds : List DeclTree) (rest : List DeclIn) → tree.DeclsFewCases most ds → All DefFew (defs_of rest)
      → All DefFew (defs_of (map (decl_in n) ds ++ rest))
  of_decls n [] rest few h = h
  of_decls n (root c ∷ ds) rest few h = of_decls n ds rest few.1 h
  of_decls n (ctor c ∷ ds) rest few h = of_decls n ds rest few.1 h
  of_decls n (other c ∷ ds) rest few h = of_decls n ds rest few.1 h
  of_decls n (def d ∷ ds) rest few h =
      All-cons DefFew (record { source = n; def = d }) (defs_of (map (decl_in n) ds ++ rest)) few.0
      (of_decls n ds rest few.1 h)

  of_units : (n : ℕ) (us : List UnitTree) → HaveFewCases most us → All DefFew (defs_of (decls_from n us))
  of_units n [] few = All-nil DefFew
  of_units n (u ∷ us) few = of_decls n u.decls (decls_from (n + 1) us) few.0 (of_units (n + 1) us few.1)

  pub typing_narrow : (units : List UnitTree) (t : Typed) → HaveFewCases most units → HasTyping units t
      → list_all is_narrow_def t.defs ≡ true
  typing_narrow units t few h = narrow_defs h.declared h.defs (of_units 1 units few)

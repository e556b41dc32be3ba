-- A fault that is computed stands there.
use Rattle.std.proofs.Common.{◌≡◌, ◌∙◌, ℕ, List, [], ◌∷◌, ◌++◌, Ok, Err, Option, Some, None}
use Rattle.std.proofs.Common.{refl, sym, ap, subst, length}
use Rattle.std.specs.Prelude.{◌≢◌, slice_get}
use Rattle.pp_fault.specs.declared.Fault.{Fault}
use Rattle.pp_fault.specs.declared.Rule.TheVariants.{Duplicate, Mismatch, NotABoolean}
use Rattle.pp_fault.specs.Part.{and_then}
use Rattle.pp_fault.proofs.Parts.{same_err, same_ok}
use Rattle.pp_generic.specs.declared.expected.Expected.{Expected}
use Rattle.pp_generic.specs.declared.expected.Expected.TheVariants.{Open}
use Rattle.pp_typed.specs.Equal.{equal}
use Rattle.pp_generic.specs.Expected.{Found, exact, expect, known}
use Rattle.pp_generic.specs.Found.{learn}
use Rattle.pp_typed.specs.Operators.{takes, unary_sort}
use Rattle.pp_rules.specs.declared.callee.Callee.{Callee}
use Rattle.pp_rules.specs.Elab.{alike, applied, arm, asserted, body_sort}
use Rattle.pp_rules.specs.Elab.{chosen, condition, count, elab, elab_args}
use Rattle.pp_rules.specs.Elab.{elab_cases, elab_pattern, field_of_ctor, field_placed, field_typed}
use Rattle.pp_rules.specs.Elab.{guarded_arm, is_sort, local_at, matched, name_at, named}
use Rattle.pp_rules.specs.Elab.{negated, no_args, of_sort, plain_arm, selected, taken}
use Rattle.pp_rules.specs.Elab.{val_expected, valued}
use Rattle.pp_operators.specs.Classes.{is_equality}
use Rattle.pp_rules.specs.Operators.{admits, right_expected}
use Rattle.pp_rules.specs.Scope.{Env, Scope, clashes, place}
use Rattle.pp_rules.specs.Shapes.{applied_by, field_place, field_sort, named_by, only_ctor}
use Rattle.pp_rules.specs.Typing.{Types, an_int, a_bool, a_local, a_name, an_application, a_field, a_prefix}
use Rattle.pp_rules.specs.Typing.{an_operation, a_choice, a_match, a_val, an_assert, Applies, applies}
use Rattle.pp_rules.specs.Typing.{TypesArgs, TypesCases}
use Rattle.pp_rules.specs.Written.{written}
use Rattle.pp_sorts.proofs.Broken.{stands}
use Rattle.pp_tree.specs.Plain.{Word, TypeTree, TypeTrees, no_types, PatternTree}
use Rattle.pp_tree.specs.Plain.{Tree, int, bool}
use Rattle.pp_tree.specs.Plain.{name, apply, field, unary, binary, choice, matching, val_in, assert_in, Trees, no_trees}
use Rattle.pp_tree.specs.Plain.{more_trees, CaseTrees, no_cases, plain_case, guarded_case}
use Rattle.pp_typed.specs.declared.expr.TypedCase.{TypedCase}
use Rattle.pp_typed.specs.declared.expr.TypedExpr.{TypedExpr}
use Rattle.pp_typed.specs.declared.pattern.TypedPattern.{TypedPattern}
use Rattle.pp_typed.specs.declared.sort.GenericSort.{GenericSort}
use Rattle.pp_typed.specs.declared.sort.GenericSort.TheOpen as layer
use Rattle.pp_typed.specs.declared.sort.GenericSort.TheVariants as sort
use Rattle.pp_typed.specs.declared.sort.GenericSort.TheViews.{out-GenericSort}
use Rattle.pp_typing_laws.proofs.Faulty.{then_err, differs, unless_err, fresh_err, agreed_err}
use Rattle.pp_typing_laws.proofs.Faulty.{of_sort_err}
use Rattle.pp_typing_laws.proofs.Patterns.{root_of, shows_root, sound_pattern}
use Rattle.pp_typing_laws.proofs.Sound.{sound, sound_args, sound_cases, wanted_ok, taken_ok, arm_sort}
use Rattle.pp_typing_laws.proofs.Steps.{then_ok, of_sort_ok, is_sort_is}
use Rattle.pp_typing_laws.specs.Faults.{at_of, flawed}
use Rattle.pp_typing_laws.specs.Faults.{BreaksWritten, in_type, Breaks}
use Rattle.pp_typing_laws.specs.Faults.{unfit_int, unfit_bool, absent_local, unfit_local, unknown_name, in_name}
use Rattle.pp_typing_laws.specs.Faults.{unknown_applied, in_application, in_base, no_one_ctor, unknown_field}
use Rattle.pp_typing_laws.specs.Faults.{unfit_field, in_operand, unfit_operand, unfit_unary, in_left, unfit_left}
use Rattle.pp_typing_laws.specs.Faults.{in_right, unfit_right, unfit_binary, in_test, in_first, in_second}
use Rattle.pp_typing_laws.specs.Faults.{unlike_second, in_matched, without_case, in_case, clashing_val, in_val_type}
use Rattle.pp_typing_laws.specs.Faults.{in_value, after_val, in_asserted, after_assert, BreaksCondition, in_condition}
use Rattle.pp_typing_laws.specs.Faults.{no_boolean}
use Rattle.pp_typing_laws.specs.Faults.{BreaksArgs, this_arg, unfit_arg, later_arg}
use Rattle.pp_typing_laws.specs.Faults.{BreaksCases, in_plain, in_guarded, in_guard, plain_body, guarded_body}
use Rattle.pp_typing_laws.specs.Faults.{after_plain, after_guarded, BreaksBody, in_body, unlike_body}
use Rattle.pp_typing_laws.proofs.CallStands.{applied_err, bare_args}
use Rattle.pp_typing_laws.proofs.PatternStands.{stands_pattern}

module _ (env : Env) where
  at_applied : {sc : Scope} {at : ℕ} {x : Expected} {ts : TypeTrees} {c : Callee} {es : Trees} {e : TypedExpr}
      → Applies env sc at x ts c es e → e.at ≡ at
  at_applied (applies at sorts s all is suits) = refl

  -- a typed expression has the offset of its tree
  pub at_typed : {sc : Scope} {k : ℕ} {x : Expected} {t : Tree} {e : TypedExpr} → Types env sc k x t e → e.at ≡ at_of t
  at_typed (an_int at n h) = refl
  at_typed (a_bool at b h) = refl
  at_typed (a_local at w i l p g h) = refl
  at_typed (a_name at w c p g a) = at_applied a
  at_typed (an_application at w c g a) = at_applied a
  at_typed (a_field at w r c j args s b is f g h suits) = refl
  at_typed (a_prefix at op b e h) = refl
  at_typed (an_operation at op l m r e h) = refl
  at_typed (a_choice at test is first second e) = refl
  at_typed (a_match at s b all) = refl
  at_typed (a_val at w new wants value rest) = refl
  at_typed (an_assert at test is rest) = refl

  -- names and fields

  named_err : (sc : Scope) (k at : ℕ) (x : Expected) (w : Word) (o : Option ℕ) (f : Fault) → place w sc ≡ o
      → named env sc at x w o ≡ Err f → Breaks env sc k x (name at w) f
  named_err sc k at x w (Some i) f p h = at_place (slice_get sc i) refl h
    where
      at_place : (l : Option (Word × GenericSort)) → slice_get sc i ≡ l → local_at env at x w i l ≡ Err f
          → Breaks env sc k x (name at w) f
      at_place None g h = subst (Breaks env sc k x (name at w)) (same_err {A = TypedExpr} _ f h)
          (absent_local at w i p g)
      at_place (Some l) g h =
          let q = agreed_err env x w _ f h in subst (Breaks env sc k x (name at w)) q.1 (unfit_local at w i l p g q.0)
  named_err sc k at x w None f p h = as_callee (named_by env.declared w) refl h
    where
      as_callee : (o : Option Callee) → named_by env.declared w ≡ o
          → applied env at x w no_types 0 (no_args env) o ≡ Err f → Breaks env sc k x (name at w) f
      as_callee None g h = subst (Breaks env sc k x (name at w)) (same_err {A = TypedExpr} _ f h)
          (unknown_name at w p g)
      as_callee (Some c) g h =
          in_name at w c p g (applied_err env sc at x w no_types c no_trees (no_args env) f (λ ps found e. cc)
          (bare_args env sc) h)

  field_err : (sc : Scope) (k at : ℕ) (x : Expected) (w : Word) (b : Tree) (t : TypedExpr)
      (o : layer.GenericSort-F GenericSort) (f : Fault)
      → Types env sc (length sc) Open b t → out-GenericSort t.of ≡ o → selected env at x w t o ≡ Err f
      → Breaks env sc k x (field at b w) f
  field_err sc k at x w b t (layer.Root r args) f base is h = of_ctor (only_ctor env.declared r) refl h
    where
      is_root : t.of ≡ sort.Root r args
      is_root = root_of t.of r args is

      of_sort_j : (c j : ℕ) (o : Option GenericSort) → only_ctor env.declared r ≡ Some c
          → field_place env.declared c w ≡ Some j → field_sort env.declared c j ≡ o
          → field_typed env at x w args t j o ≡ Err f → Breaks env sc k x (field at b w) f
      of_sort_j c j None p g s h =
          subst (Breaks env sc k x (field at b w)) (same_err {A = TypedExpr} _ f h)
          (unknown_field at w r c args base is_root p (λ i of e1 e2. (let same = sym g
          ∙ e1 in let e3 = ap (field_sort env.declared c) (let z : j ≡ i = cc in z) in cc)))
      of_sort_j c j (Some of) p g s h =
          let q = agreed_err env x w _ f h in
          subst (Breaks env sc k x (field at b w)) q.1 (unfit_field at w r c j args of base is_root p g s q.0)

      of_place : (c : ℕ) (o : Option ℕ) → only_ctor env.declared r ≡ Some c → field_place env.declared c w ≡ o
          → field_placed env at x w args t c o ≡ Err f → Breaks env sc k x (field at b w) f
      of_place c None p g h =
          subst (Breaks env sc k x (field at b w)) (same_err {A = TypedExpr} _ f h)
          (unknown_field at w r c args base is_root p (λ i of e1 e2. (let same = sym g ∙ e1 in cc)))
      of_place c (Some j) p g h = of_sort_j c j (field_sort env.declared c j) p g refl h

      of_ctor : (o : Option ℕ) → only_ctor env.declared r ≡ o → field_of_ctor env at x w args t o ≡ Err f
          → Breaks env sc k x (field at b w) f
      of_ctor None p h =
          subst (Breaks env sc k x (field at b w)) (same_err {A = TypedExpr} _ f h)
          (no_one_ctor at w base (λ q c ss e1 e2.
          let same = sym is ∙ shows_root t.of q ss e1 in
          let z : r ≡ q = cc in let e3 = ap (only_ctor env.declared) z in cc))
      of_ctor (Some c) p h = of_place c (field_place env.declared c w) p refl h
  field_err sc k at x w b t layer.Int f base is h =
      subst (Breaks env sc k x (field at b w)) (same_err {A = TypedExpr} _ f h)
      (no_one_ctor at w base (λ q c ss e1 e2. (let same = sym is ∙ shows_root t.of q ss e1 in cc)))
  field_err sc k at x w b t layer.Bool f base is h =
      subst (Breaks env sc k x (field at b w)) (same_err {A = TypedExpr} _ f h)
      (no_one_ctor at w base (λ q c ss e1 e2. (let same = sym is ∙ shows_root t.of q ss e1 in cc)))
  field_err sc k at x w b t (layer.Param i) f base is h =
      subst (Breaks env sc k x (field at b w)) (same_err {A = TypedExpr} _ f h)
      (no_one_ctor at w base (λ q c ss e1 e2. (let same = sym is ∙ shows_root t.of q ss e1 in cc)))

  -- conditions, written types, arguments, cases

  -- a fault that stands in an expression where it is computed
  abbrev Stood : Tree → Fault → Type 0
  Stood t f = (sc : Scope) (k : ℕ) (x : Expected) → elab env t sc k x ≡ Err f → Breaks env sc k x t f

  pub condition_err : (c : Tree) (sc : Scope) (f : Fault) → Stood c f
      → condition env (name_at env c) (elab env c sc (length sc) Open) ≡ Err f → BreaksCondition env sc c f
  condition_err c sc f ih h =
      then_err (elab env c sc (length sc) Open) (of_sort env NotABoolean sort.Bool (name_at env c)) f h
      (λ e. in_condition (ih sc (length sc) Open e))
      (λ t is rest.
      let ty = sound env c sc (length sc) Open t is in
      let q = of_sort_err env NotABoolean sort.Bool (name_at env c) t f rest in
      subst (BreaksCondition env sc c) (ap (flawed env NotABoolean (name_at env c)) (sym (at_typed ty))
      ∙ q.1) (no_boolean ty q.0))

  pub written_err : (t : TypeTree) (f : Fault) → written env t ≡ Err f → BreaksWritten env t f
  written_err t f h =
      let s = stands env.declared.roots env.type_params env.source t f h in
      subst (BreaksWritten env t) (ap (λ z. record { rule = f.rule; name = f.name; source = z; at = f.at })
      (sym s.in_source))
      (in_type f.rule f.name f.at s.broken)

  wanted_err : (sc : Scope) (k at : ℕ) (x : Expected) (w : Word) (t : Option TypeTree) (a b : Tree) (f : Fault)
      → val_expected env t ≡ Err f → Breaks env sc k x (val_in at w t a b) f
  wanted_err sc k at x w None a b f h = cc
  wanted_err sc k at x w (Some t) a b f h =
      then_err (written env t) _ f h (λ e. in_val_type at w (written_err t f e)) (λ s is more. cc)

  taken_err : (p : GenericSort) (w : Word) (found : Found) (t : TypedExpr) (f : Fault) → taken env p w found t ≡ Err f
      → (known (learn p (exact t.of) found) p ≢ Some t.of) × (flawed env Mismatch w t.at ≡ f)
  taken_err p w found t f h =
      unless_err env (is_sort env (known (learn p (exact t.of) found) p) t.of) Mismatch w t.at (Ok (
        t,
        learn p
            (exact t.of) found,
      )) f h
      (λ b is. (λ e. (let yes = is_sort_is env (known (learn p (exact t.of) found) p) t.of e in cc), is)) (λ b is. cc)

  -- the sort of the first of these cases
  abbrev first_of : List TypedCase → Option GenericSort
  first_of [] = None
  first_of (c ∷ cs) = Some (body_sort c)

  alike_err : (done : List TypedCase) (body : Tree) (sc : Scope) (x : Expected) (t : TypedExpr) (f : Fault)
      → Types env sc (length sc) x body t → alike env done (name_at env body) t ≡ Err f
      → BreaksBody env sc x (first_of done) body f
  alike_err [] body sc x t f ty h = cc
  alike_err (c ∷ cs) body sc x t f ty h =
      let q = of_sort_err env Mismatch (body_sort c) (name_at env body) t f h in
      subst (BreaksBody env sc x (Some (body_sort c)) body) (ap (flawed env Mismatch (name_at env body)) (sym
      (at_typed ty)) ∙ q.1) (unlike_body ty q.0)

  first_after : (done : List TypedCase) (w : Word) (p : TypedPattern) (g : Option TypedExpr) (t u : TypedExpr)
      → alike env done w t ≡ Ok u → first_of (done ++ arm env p g u ∷ []) ≡ Some t.of
  first_after [] w p g t u h = ap Some (arm_sort env p g u ∙ ap (λ z. z.of) (sym (same_ok t u h)))
  first_after (c ∷ cs) w p g t u h = ap Some (sym (of_sort_ok env Mismatch (body_sort c) w t u h).0)

  body_err : (done : List TypedCase) (body : Tree) (sc : Scope) (x : Expected) (p : TypedPattern)
      (g : Option TypedExpr) (f : Fault) → Stood body f
      → and_then (elab env body sc (length sc) x) (λ t. and_then (alike env done (name_at env body) t) (λ u. Ok
      (arm env p g u))) ≡ Err f
      → BreaksBody env sc x (first_of done) body f
  body_err done body sc x p g f ih h =
      then_err (elab env body sc (length sc) x) _ f h
      (λ e. in_body (ih sc (length sc) x e))
      (λ t is rest. then_err (alike env done (name_at env body) t) _ f rest
      (λ e. alike_err done body sc x t f (sound env body sc (length sc) x t is) e) (λ u is2 more. cc))

  some_plain : {sc : Scope} {x : Expected} {s of : GenericSort} {p : PatternTree} {body : Tree} {cs : CaseTrees}
      → TypesCases env sc x s of (plain_case p body cs) [] → ⊥
  some_plain h = elim h [ ]

  some_guarded : {sc : Scope} {x : Expected} {s of : GenericSort} {p : PatternTree} {guard body : Tree} {cs : CaseTrees}
      → TypesCases env sc x s of (guarded_case p guard body cs) [] → ⊥
  some_guarded h = elim h [ ]

  matched_err : (sc : Scope) (k at : ℕ) (x : Expected) (b : Tree) (cs : CaseTrees) (t : TypedExpr)
      (r : List TypedCase) (f : Fault)
      → elab_cases env [] cs sc x t.of ≡ Ok r → matched env at t r ≡ Err f → Breaks env sc k x (matching at b cs) f
  matched_err sc k at x b no_cases t [] f h m = subst (Breaks env sc k x (matching at b no_cases))
      (same_err {A = TypedExpr} _ f m) (without_case at)
  matched_err sc k at x b (plain_case p body cs) t [] f h m =
      let q = sound_cases env (plain_case p body cs) sc x t.of [] [] h in
      absurd (some_plain (subst (TypesCases env sc x t.of sort.Int (plain_case p body cs)) q.1 (q.2 sort.Int tt)))
  matched_err sc k at x b (guarded_case p guard body cs) t [] f h m =
      let q = sound_cases env (guarded_case p guard body cs) sc x t.of [] [] h in
      absurd (some_guarded (subst (TypesCases env sc x t.of sort.Int (guarded_case p guard body cs)) q.1
      (q.2 sort.Int tt)))
  matched_err sc k at x b cs t (c ∷ arms) f h m = cc

  apply_err : (sc : Scope) (k at : ℕ) (x : Expected) (w : Word) (ts : TypeTrees) (es : Trees) (o : Option Callee)
      (f : Fault)
      → ((ps : List GenericSort) (found : Found) → elab_args env [] es sc ps found ≡ Err f
      → BreaksArgs env sc ps found es f)
      → applied_by env.declared w ≡ o → applied env at x w ts (count es)
      (λ ps found. elab_args env [] es sc ps found) o ≡ Err f
      → Breaks env sc k x (apply at w ts es) f
  apply_err sc k at x w ts es None f ih p h =
      subst (Breaks env sc k x (apply at w ts es)) (same_err {A = TypedExpr} _ f h) (unknown_applied at w p)
  apply_err sc k at x w ts es (Some c) f ih p h =
      in_application at w c p (applied_err env sc at x w ts c es (λ ps found. elab_args env [] es sc ps found) f ih
      (λ ps found r n e.
      let all = sound_args env es sc ps found [] r n e in
      subst (λ us. TypesArgs env sc ps found es us r.1) all.1 all.2) h)

  mutual
    -- a fault that is computed stands in the expression
    pub stands_expr : (t : Tree) (sc : Scope) (k : ℕ) (x : Expected) (f : Fault) → elab env t sc k x ≡ Err f
        → Breaks env sc k x t f
    stands_expr (int at n) sc k x f h =
        let q = agreed_err env x env.function _ f h in subst (Breaks env sc k x (int at n)) q.1 (unfit_int at n q.0)
    stands_expr (bool at b) sc k x f h =
        let q = agreed_err env x env.function _ f h in subst (Breaks env sc k x (bool at b)) q.1 (unfit_bool at b q.0)
    stands_expr (name at w) sc k x f h = named_err sc k at x w (place w sc) f refl h
    stands_expr (apply at w ts es) sc k x f h = apply_err sc k at x w ts es (applied_by env.declared w) f
        (λ ps found e. stands_args es sc ps found [] f e) refl h
    stands_expr (field at b w) sc k x f h =
        then_err (elab env b sc (length sc) Open) _ f h
        (λ e. in_base at w (stands_expr b sc (length sc) Open f e))
        (λ t is rest. field_err sc k at x w b t (out-GenericSort t.of) f (sound env b sc
        (length sc) Open t is) refl rest)
    stands_expr (unary at op a) sc k x f h =
        then_err (elab env a sc (length sc) Open) _ f h
        (λ e. in_operand at op (stands_expr a sc (length sc) Open f e))
        (λ t is rest. then_err (of_sort env Mismatch (unary_sort op) (name_at env a) t) (negated env at x op) f rest
        (λ e.
        let ty = sound env a sc (length sc) Open t is in
        let q = of_sort_err env Mismatch (unary_sort op) (name_at env a) t f e in
        subst (Breaks env sc k x (unary at op a)) (ap (flawed env Mismatch (name_at env a)) (sym
        (at_typed ty)) ∙ q.1) (unfit_operand at op ty q.0))
        (λ u is2 rest2.
        let q = agreed_err env x env.function _ f rest2 in
        subst (Breaks env sc k x (unary at op a)) q.1 (unfit_unary at op q.0)))
    stands_expr (binary at op a b) sc k x f h =
        then_err (elab env a sc (length sc) Open) _ f h
        (λ e. in_left at op (stands_expr a sc (length sc) Open f e))
        (λ t is rest.
        let ty = sound env a sc (length sc) Open t is in
        unless_err env (admits op t.of) Mismatch (name_at env a) t.at _ f rest
        (λ m e. subst (Breaks env sc k x (binary at op a b)) (ap (flawed env Mismatch (name_at env a)) (sym
        (at_typed ty)) ∙ e) (unfit_left at op ty m))
        (λ m rest2. then_err (elab env b sc (length sc) (right_expected (is_equality op) t.of)) _ f rest2
        (λ e. in_right at op ty (stands_expr b sc (length sc) (right_expected (is_equality op) t.of) f e))
        (λ u is2 rest3.
        let tu = sound env b sc (length sc) (right_expected (is_equality op) t.of) u is2 in
        unless_err env (takes op t.of u.of) Mismatch (name_at env b) u.at _ f rest3
        (λ m2 e. subst (Breaks env sc k x (binary at op a b)) (ap (flawed env Mismatch (name_at env b)) (sym
        (at_typed tu)) ∙ e) (unfit_right at op ty tu m2))
        (λ m2 rest4.
        let q = agreed_err env x env.function _ f rest4 in
        subst (Breaks env sc k x (binary at op a b)) q.1 (unfit_binary at op ty q.0)))))
    stands_expr (choice at c a b) sc k x f h =
        then_err (condition env (name_at env c) (elab env c sc (length sc) Open)) _ f h
        (λ e. in_test at (condition_err c sc f (λ sc2 k2 x2 e2. stands_expr c sc2 k2 x2 f e2) e))
        (λ t is rest. then_err (elab env a sc (length sc) x) _ f rest
        (λ e. in_first at (stands_expr a sc (length sc) x f e))
        (λ u is2 rest2. then_err (elab env b sc (length sc) x) (chosen env at t u (name_at env b)) f rest2
        (λ e. in_second at (stands_expr b sc (length sc) x f e))
        (λ v is3 rest3.
        let tv = sound env b sc (length sc) x v is3 in
        unless_err env (equal u.of v.of) Mismatch (name_at env b) v.at _ f rest3
        (λ d e. subst (Breaks env sc k x (choice at c a b)) (ap (flawed env Mismatch (name_at env b)) (sym
        (at_typed tv)) ∙ e)
        (unlike_second at (sound env a sc (length sc) x u is2) tv (λ s. differs env u.of v.of d (sym s))))
        (λ d e. cc))))
    stands_expr (matching at b cs) sc k x f h =
        then_err (elab env b sc (length sc) Open) _ f h
        (λ e. in_matched at (stands_expr b sc (length sc) Open f e))
        (λ t is rest. then_err (elab_cases env [] cs sc x t.of) (matched env at t) f rest
        (λ e. in_case at (sound env b sc (length sc) Open t is) (stands_cases cs sc x t.of [] f e))
        (λ r is2 rest2. matched_err sc k at x b cs t r f is2 rest2))
    stands_expr (val_in at w t a b) sc k x f h =
        fresh_err env (clashes w k sc) Duplicate w at _ f h
        (λ c e. subst (Breaks env sc k x (val_in at w t a b)) e (clashing_val at w c))
        (λ c rest. then_err (val_expected env t) _ f rest
        (λ e. wanted_err sc k at x w t a b f e)
        (λ y is rest2. then_err (elab env a sc (length sc) y) _ f rest2
        (λ e. in_value at w (wanted_ok env t y is) (stands_expr a sc (length sc) y f e))
        (λ u is2 rest3. then_err (elab env b (sc ++ (w, u.of) ∷ []) k x) (valued env at u) f rest3
        (λ e. after_val at w (wanted_ok env t y is) (sound env a sc (length sc) y u is2) (stands_expr b
        (sc ++ (w, u.of) ∷ []) k x f e))
        (λ v is3 more. cc))))
    stands_expr (assert_in at c b) sc k x f h =
        then_err (condition env (name_at env c) (elab env c sc (length sc) Open)) _ f h
        (λ e. in_asserted at (condition_err c sc f (λ sc2 k2 x2 e2. stands_expr c sc2 k2 x2 f e2) e))
        (λ t is rest. then_err (elab env b sc k x) (asserted env at t) f rest
        (λ e. after_assert at (stands_expr b sc k x f e)) (λ u is2 more. cc))

    stands_args : (es : Trees) (sc : Scope) (ps : List GenericSort) (found : Found) (done : List TypedExpr) (f : Fault)
        → elab_args env done es sc ps found ≡ Err f → BreaksArgs env sc ps found es f
    stands_args no_trees sc ps found done f h = cc
    stands_args (more_trees e es) sc [] found done f h = cc
    stands_args (more_trees e es) sc (p ∷ ps) found done f h =
        then_err (elab env e sc (length sc) (expect found p)) _ f h
        (λ i. this_arg (stands_expr e sc (length sc) (expect found p) f i))
        (λ t is rest.
        let ty = sound env e sc (length sc) (expect found p) t is in
        then_err (taken env p (name_at env e) found t) _ f rest
        (λ i.
        let q = taken_err p (name_at env e) found t f i in
        subst (BreaksArgs env sc (p ∷ ps) found (more_trees e es)) (ap (flawed env Mismatch (name_at env e))
        (sym (at_typed ty)) ∙ q.1) (unfit_arg ty q.0))
        (λ r is2 rest2.
        let q = taken_ok env p (name_at env e) found t r is2 in
        later_arg ty q.0 (stands_args es sc ps (learn p (exact t.of) found) (done ++ t ∷ []) f
        (subst (λ z. elab_args env (done ++ z.0 ∷ []) es sc ps z.1 ≡ Err f) (sym q.1) rest2))))

    stands_cases : (cs : CaseTrees) (sc : Scope) (x : Expected) (s : GenericSort) (done : List TypedCase) (f : Fault)
        → elab_cases env done cs sc x s ≡ Err f → BreaksCases env sc x s (first_of done) cs f
    stands_cases no_cases sc x s done f h = cc
    stands_cases (plain_case p body cs) sc x s done f h =
        then_err (plain_arm env done (elab_pattern env p s (length sc) sc) (name_at env body)
        (λ after. elab env body after (length after) x)) _ f h
        (λ e. then_err (elab_pattern env p s (length sc) sc) _ f e
        (λ i. in_plain (stands_pattern env p s (length sc) sc f i))
        (λ r is rest. plain_body (sound_pattern env p s (length sc) sc r is)
        (body_err done body r.1 x r.0 None f (λ sc2 k2 x2 e2. stands_expr body sc2 k2 x2 f e2) rest)))
        (λ a is rest.
        let q = then_ok (elab_pattern env p s (length sc) sc) _ a is in
        let t = then_ok (elab env body q.0.1 (length q.0.1) x) _ a q.2 in
        let u = then_ok (alike env done (name_at env body) t.0) _ a t.2 in
        let is_arm = same_ok (arm env q.0.0 None u.0) a u.2 in
        let later = stands_cases cs sc x s (done ++ a ∷ []) f rest in
        let first = ap (λ z. first_of (done ++ z ∷ [])) (sym is_arm)
        ∙ first_after done (name_at env body) q.0.0 None t.0 u.0 u.1 in
        after_plain (sound_pattern env p s (length sc) sc q.0 q.1) (sound env body q.0.1 (length q.0.1) x t.0 t.1)
        (subst (λ o. BreaksCases env sc x s o cs f) first later))
    stands_cases (guarded_case p guard body cs) sc x s done f h =
        then_err (guarded_arm env done (elab_pattern env p s (length sc) sc) (name_at env guard)
        (λ after. elab env guard after (length after) Open) (name_at env body) (λ after. elab env body after
        (length after) x)) _ f h
        (λ e. then_err (elab_pattern env p s (length sc) sc) _ f e
        (λ i. in_guarded (stands_pattern env p s (length sc) sc f i))
        (λ r is rest. then_err (condition env (name_at env guard) (elab env guard r.1 (length r.1) Open)) _ f rest
        (λ i. in_guard (sound_pattern env p s (length sc) sc r is) (condition_err guard r.1 f
        (λ sc2 k2 x2 e2. stands_expr guard sc2 k2 x2 f e2) i))
        (λ g is2 rest2. guarded_body (sound_pattern env p s (length sc) sc r is)
        (body_err done body r.1 x r.0 (Some g) f (λ sc2 k2 x2 e2. stands_expr body sc2 k2 x2 f e2) rest2))))
        (λ a is rest.
        let q = then_ok (elab_pattern env p s (length sc) sc) _ a is in
        let g = then_ok (condition env (name_at env guard) (elab env guard q.0.1 (length q.0.1) Open)) _ a q.2 in
        let t = then_ok (elab env body q.0.1 (length q.0.1) x) _ a g.2 in
        let u = then_ok (alike env done (name_at env body) t.0) _ a t.2 in
        let is_arm = same_ok (arm env q.0.0 (Some g.0) u.0) a u.2 in
        let later = stands_cases cs sc x s (done ++ a ∷ []) f rest in
        let first = ap (λ z. first_of (done ++ z ∷ [])) (sym is_arm)
        ∙ first_after done (name_at env body) q.0.0 (Some g.0) t.0 u.0 u.1 in
        after_guarded (sound_pattern env p s (length sc) sc q.0 q.1) (sound env body q.0.1 (length q.0.1) x t.0 t.1)
        (subst (λ o. BreaksCases env sc x s o cs f) first later))

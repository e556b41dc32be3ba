-- What gets a typing has it by the rules.
use Rattle.std.proofs.Common.{◌≡◌, ◌∙◌, ℕ, suc, List, [], ◌∷◌, ◌++◌, Ok, Option, Some, None}
use Rattle.std.proofs.Common.{refl, sym, ap, subst, nat_eq, length, append_assoc}
use Rattle.std.specs.Prelude.{slice_get}
use Rattle.std.proofs.lemmas.Bool.{eqb-true}
use Rattle.std.proofs.lemmas.List.{append-nil}
use Rattle.pp_fault.specs.declared.Rule.TheVariants.{Mismatch, Arity}
use Rattle.pp_fault.specs.Part.{Part}
use Rattle.pp_fault.proofs.Parts.{same_ok}
use Rattle.pp_generic.proofs.Equal.{equal_same}
use Rattle.pp_generic.specs.declared.expected.Expected.{Expected}
use Rattle.pp_generic.specs.declared.expected.Expected.TheVariants.{Open}
use Rattle.pp_typed.specs.Equal.{equal}
use Rattle.pp_generic.specs.Expected.{Found, exact, expect, every, known}
use Rattle.pp_generic.specs.Found.{learn}
use Rattle.pp_typed.specs.Operators.{takes, unary_sort}
use Rattle.pp_typed.specs.Put.{put}
use Rattle.pp_rules.specs.declared.callee.Callee.{Callee}
use Rattle.pp_rules.specs.Elab.{Taken, alike, applied, arm, asserted, body_sort, chosen, condition, count, elab}
use Rattle.pp_rules.specs.Elab.{elab_args, elab_cases, elab_pattern, field_of_ctor, field_placed, field_typed, finished}
use Rattle.pp_rules.specs.Elab.{guarded_arm, inferred, is_sort, local_at, matched, name_at, named, negated}
use Rattle.pp_rules.specs.Elab.{no_args, of_sort, plain_arm, selected, started, taken, typed, val_expected}
use Rattle.pp_rules.specs.Elab.{valued}
use Rattle.pp_operators.specs.Classes.{is_equality}
use Rattle.pp_rules.specs.Operators.{admits, right_expected}
use Rattle.pp_rules.specs.Scope.{Env, Scope, clashes, place}
use Rattle.pp_rules.specs.Shapes.{application, applied_by, field_place, field_sort, named_by, only_ctor}
use Rattle.pp_rules.specs.Typing.{Suits, Starts, starts_expected, starts_written, Wants, wants_nothing, wants_written}
use Rattle.pp_rules.specs.Typing.{Types, an_int, a_bool, a_local, a_name, an_application, a_field}
use Rattle.pp_rules.specs.Typing.{a_prefix, an_operation, a_choice, a_match, a_val, an_assert, Applies, applies}
use Rattle.pp_rules.specs.Typing.{TypesArgs, no_arg, one_arg, TypesCases, no_case, one_case, one_guarded}
use Rattle.pp_rules.specs.Written.{written, written_from}
use Rattle.pp_sorts.specs.IsSort.{count as count_types}
use Rattle.pp_tree.specs.Plain.{Word, TypeTree, TypeTrees, no_types, more_types, Tree, int, bool, name}
use Rattle.pp_tree.specs.Plain.{apply, field, unary, binary, choice, matching, val_in, assert_in, Trees, no_trees}
use Rattle.pp_tree.specs.Plain.{more_trees, CaseTrees, no_cases, plain_case, guarded_case}
use Rattle.pp_typed.specs.declared.expr.TypedCase.{TypedCase}
use Rattle.pp_typed.specs.declared.expr.TypedExpr.{TypedExpr}
use Rattle.pp_typed.specs.declared.expr.TypedKind.TheVariants as kind
use Rattle.pp_typed.specs.declared.expr.TypedKind.TheViews.{out-roll-TypedCase}
use Rattle.pp_typed.specs.declared.pattern.TypedPattern.{TypedPattern}
use Rattle.pp_typed.specs.declared.sort.GenericSort.{GenericSort}
use Rattle.pp_typed.specs.declared.sort.GenericSort.TheOpen as layer
use Rattle.pp_typed.specs.declared.sort.GenericSort.TheViews.{out-GenericSort}
use Rattle.pp_typing_laws.proofs.Patterns.{root_of, sound_pattern}
use Rattle.pp_typing_laws.proofs.Steps.{then_ok, unless_ok, fresh_ok, agreed_ok, of_sort_ok, condition_ok}
use Rattle.pp_typing_laws.proofs.Steps.{is_sort_some, nothing_left}
use Rattle.pp_typing_laws.proofs.WrittenSorts.{sound_written, sound_all_written}

module _ (env : Env) where
  pub started_ok : (at : ℕ) (x : Expected) (w : Word) (ts : TypeTrees) (c : Callee) (found : Found)
      → started env at x w ts c ≡ Ok found → Starts env x ts c found
  started_ok at x w no_types c found h = subst (Starts env x no_types c) (same_ok _ found h) starts_expected
  started_ok at x w (more_types t ts) c found h =
      let q = unless_ok env (nat_eq (suc (count_types ts)) c.type_params) Arity w at _ found h in
      let s = then_ok (written_from env [] (more_types t ts)) _ found q.1 in
      subst (Starts env x (more_types t ts) c) (same_ok _ found s.2)
      (starts_written t ts s.0 (eqb-true _ _ q.0) (sound_all_written env (more_types t ts) s.0 s.1))

  -- what an application that is given a typing consists of
  record Application (at : ℕ) (x : Expected) (ts : TypeTrees) (n : ℕ) (args : List GenericSort → Found
      → Part Taken) (o : Option Callee) (e : TypedExpr) : Type 0 where
    callee : Callee
    is_callee : o ≡ Some callee
    arity : n ≡ length callee.params
    found : Found
    starts : Starts env x ts callee found
    all : Taken
    is_all : args callee.params found ≡ Ok all
    sorts : List GenericSort
    are_sorts : every all.1 ≡ Some sorts
    suits : Suits x (put sorts callee.result)
    is : typed env at (put sorts callee.result) (application callee.target sorts all.0) ≡ e

  inferred_ok : (at : ℕ) (x : Expected) (w : Word) (c : Callee) (es : List TypedExpr) (o : Option
      (List GenericSort)) (e : TypedExpr)
      → inferred env at x w c es o ≡ Ok e
      → (sorts : List GenericSort) × (o ≡ Some sorts) × Suits x (put sorts c.result) × (typed env at
      (put sorts c.result) (application c.target sorts es) ≡ e)
  inferred_ok at x w c es None e h = cc
  inferred_ok at x w c es (Some sorts) e h = let q = agreed_ok env x w _ e h in (sorts, refl, q.0, q.1)

  applied_ok : (at : ℕ) (x : Expected) (w : Word) (ts : TypeTrees) (n : ℕ) (args : List GenericSort → Found
      → Part Taken) (o : Option Callee) (e : TypedExpr)
      → applied env at x w ts n args o ≡ Ok e → Application at x ts n args o e
  applied_ok at x w ts n args None e h = cc
  applied_ok at x w ts n args (Some c) e h =
      let q = unless_ok env (nat_eq n (length c.params)) Arity w at _ e h in
      let f = then_ok (started env at x w ts c) _ e q.1 in
      let a = then_ok (args c.params f.0) (finished env at x w c) e f.2 in
      let s = inferred_ok at x w c a.0.0 (every a.0.1) e a.2 in record {
        callee = c;
        is_callee = refl;
        arity = eqb-true n (length c.params) q.0;
        found = f.0;
        starts = started_ok at x w ts c f.0 f.1;
        all = a.0;
        is_all = a.1;
        sorts = s.0;
        are_sorts = s.1;
        suits = s.2;
        is = s.3;
      }

  named_ok : (sc : Scope) (k at : ℕ) (x : Expected) (w : Word) (o : Option ℕ) (e : TypedExpr)
      → place w sc ≡ o → named env sc at x w o ≡ Ok e → Types env sc k x (name at w) e
  named_ok sc k at x w (Some i) e p h = at_place (slice_get sc i) refl h
    where
      at_place : (l : Option (Word × GenericSort)) → slice_get sc i ≡ l → local_at env at x w i l ≡ Ok e
          → Types env sc k x (name at w) e
      at_place None g h = cc
      at_place (Some l) g h =
          let q = agreed_ok env x w _ e h in subst (Types env sc k x (name at w)) q.1 (a_local at w i l p g q.0)
  named_ok sc k at x w None e p h =
      let a = applied_ok at x w no_types 0 (no_args env) (named_by env.declared w) e h in
      let none = nothing_left a.callee.params a.arity in
      let same = same_ok ([], a.found) a.all a.is_all in
      let args = subst (λ z. TypesArgs env sc a.callee.params a.found no_trees z.0 z.1) same
      (subst (λ ps. TypesArgs env sc ps a.found no_trees [] a.found) (sym none) no_arg) in
      a_name at w a.callee p a.is_callee
      (subst (Applies env sc at x no_types a.callee no_trees) a.is
      (applies at a.sorts a.starts args a.are_sorts a.suits))

  field_ok : (sc : Scope) (k at : ℕ) (x : Expected) (w : Word) (b : Tree) (t : TypedExpr)
      (o : layer.GenericSort-F GenericSort) (e : TypedExpr)
      → Types env sc (length sc) Open b t → out-GenericSort t.of ≡ o → selected env at x w t o ≡ Ok e
      → Types env sc k x (field at b w) e
  field_ok sc k at x w b t (layer.Root r args) e base is h = of_ctor (only_ctor env.declared r) refl h
    where
      of_sort_j : (c j : ℕ) (o : Option GenericSort) → only_ctor env.declared r ≡ Some c
          → field_place env.declared c w ≡ Some j → field_sort env.declared c j ≡ o
          → field_typed env at x w args t j o ≡ Ok e → Types env sc k x (field at b w) e
      of_sort_j c j None f g s h = cc
      of_sort_j c j (Some of) f g s h =
          let q = agreed_ok env x w _ e h in
          subst (Types env sc k x (field at b w)) q.1 (a_field at w r c j args of base
          (root_of t.of r args is) f g s q.0)

      of_place : (c : ℕ) (o : Option ℕ) → only_ctor env.declared r ≡ Some c → field_place env.declared c w ≡ o
          → field_placed env at x w args t c o ≡ Ok e → Types env sc k x (field at b w) e
      of_place c None f g h = cc
      of_place c (Some j) f g h = of_sort_j c j (field_sort env.declared c j) f g refl h

      of_ctor : (o : Option ℕ) → only_ctor env.declared r ≡ o → field_of_ctor env at x w args t o ≡ Ok e
          → Types env sc k x (field at b w) e
      of_ctor None f h = cc
      of_ctor (Some c) f h = of_place c (field_place env.declared c w) f refl h
  field_ok sc k at x w b t layer.Int e base is h = cc
  field_ok sc k at x w b t layer.Bool e base is h = cc
  field_ok sc k at x w b t (layer.Param i) e base is h = cc

  pub wanted_ok : (t : Option TypeTree) (y : Expected) → val_expected env t ≡ Ok y → Wants env t y
  wanted_ok None y h = subst (Wants env None) (same_ok Open y h) wants_nothing
  wanted_ok (Some t) y h =
      let s = then_ok (written env t) _ y h in
      subst (Wants env (Some t)) (same_ok _ y s.2) (wants_written t s.0 (sound_written env t s.0 s.1))

  pub taken_ok : (p : GenericSort) (w : Word) (found : Found) (t : TypedExpr) (r : TypedExpr × Found)
      → taken env p w found t ≡ Ok r
      → (known (learn p (exact t.of) found) p ≡ Some t.of) × ((t, learn p (exact t.of) found) ≡ r)
  taken_ok p w found t r h =
      let q = unless_ok env (is_sort env (known (learn p (exact t.of) found) p) t.of) Mismatch w t.at _ r h in
      (is_sort_some env _ t.of q.0, same_ok _ r q.1)

  -- the first of these cases has a body of this sort
  abbrev First : List TypedCase → GenericSort → Type 0
  First [] of = Unit {0}
  First (c ∷ cs) of = body_sort c ≡ of

  pub arm_sort : (p : TypedPattern) (g : Option TypedExpr) (t : TypedExpr) → body_sort (arm env p g t) ≡ t.of
  arm_sort p g t = ap (λ c. c.body.of) (out-roll-TypedCase (record { pattern = p; guard = g; body = t }))

  alike_ok : (done : List TypedCase) (w : Word) (t u : TypedExpr) → alike env done w t ≡ Ok u
      → (t ≡ u) × ((p : TypedPattern) (g : Option TypedExpr) (rest : List TypedCase) (of : GenericSort)
      → First ((done ++ arm env p g u ∷ []) ++ rest) of → u.of ≡ of)
  alike_ok [] w t u h = (same_ok t u h, λ p g rest of first. sym (arm_sort p g u) ∙ first)
  alike_ok (c ∷ cs) w t u h =
      let q = of_sort_ok env Mismatch (body_sort c) w t u h in
      (q.1, λ p g rest of first. ap (λ z. z.of) (sym q.1) ∙ q.0 ∙ first)

  of_chosen : (at : ℕ) (c a : TypedExpr) (w : Word) (b e : TypedExpr) → chosen env at c a w b ≡ Ok e
      → (a.of ≡ b.of) × (typed env at a.of (kind.If c a b) ≡ e)
  of_chosen at c a w b e h =
      let q = unless_ok env (equal a.of b.of) Mismatch w b.at _ e h in (equal_same a.of b.of q.0, same_ok _ e q.1)

  of_matched : (at : ℕ) (sc : Scope) (k : ℕ) (x : Expected) (b : Tree) (cs : CaseTrees) (t : TypedExpr)
      (r : List TypedCase) (e : TypedExpr)
      → Types env sc (length sc) Open b t
      → (arms : List TypedCase) × ([] ++ arms ≡ r) × ((of : GenericSort) → First r of
      → TypesCases env sc x t.of of cs arms)
      → matched env at t r ≡ Ok e → Types env sc k x (matching at b cs) e
  of_matched at sc k x b cs t [] e base all h = cc
  of_matched at sc k x b cs t (c ∷ arms) e base all h =
      let cases = subst (λ z. TypesCases env sc x t.of (body_sort c) cs z) all.1 (all.2 (body_sort c) refl) in
      subst (Types env sc k x (matching at b cs)) (same_ok _ e h) (a_match at (body_sort c) base cases)

  mutual
    pub sound : (t : Tree) (sc : Scope) (k : ℕ) (x : Expected) (e : TypedExpr) → elab env t sc k x ≡ Ok e
        → Types env sc k x t e
    sound (int at n) sc k x e h =
        let q = agreed_ok env x env.function _ e h in subst (Types env sc k x (int at n)) q.1 (an_int at n q.0)
    sound (bool at b) sc k x e h =
        let q = agreed_ok env x env.function _ e h in subst (Types env sc k x (bool at b)) q.1 (a_bool at b q.0)
    sound (name at w) sc k x e h = named_ok sc k at x w (place w sc) e refl h
    sound (apply at w ts es) sc k x e h =
        let a = applied_ok at x w ts (count es) (λ ps found. elab_args env [] es sc ps found)
        (applied_by env.declared w) e h in
        let all = sound_args es sc a.callee.params a.found [] a.all a.arity a.is_all in
        let args = subst (λ us. TypesArgs env sc a.callee.params a.found es us a.all.1) all.1 all.2 in
        an_application at w a.callee a.is_callee
        (subst (Applies env sc at x ts a.callee es) a.is (applies at a.sorts a.starts args a.are_sorts a.suits))
    sound (field at b w) sc k x e h =
        let t = then_ok (elab env b sc (length sc) Open) _ e h in
        field_ok sc k at x w b t.0 (out-GenericSort t.0.of) e (sound b sc (length sc) Open t.0 t.1) refl t.2
    sound (unary at op a) sc k x e h =
        let t = then_ok (elab env a sc (length sc) Open) _ e h in
        let u = then_ok (of_sort env Mismatch (unary_sort op) (name_at env a) t.0) (negated env at x op) e t.2 in
        let q = of_sort_ok env Mismatch (unary_sort op) (name_at env a) t.0 u.0 u.1 in
        let r = agreed_ok env x env.function _ e u.2 in
        let ty = a_prefix at op (sound a sc (length sc) Open t.0 t.1) q.0 r.0 in
        subst (Types env sc k x (unary at op a)) (ap (λ z. typed env at (unary_sort op) (kind.Unary op z)) q.1 ∙ r.1) ty
    sound (binary at op a b) sc k x e h =
        let t = then_ok (elab env a sc (length sc) Open) _ e h in
        let m = unless_ok env (admits op t.0.of) Mismatch (name_at env a) t.0.at _ e t.2 in
        let u = then_ok (elab env b sc (length sc) (right_expected (is_equality op) t.0.of)) _ e m.1 in
        let q = unless_ok env (takes op t.0.of u.0.of) Mismatch (name_at env b) u.0.at _ e u.2 in
        let r = agreed_ok env x env.function _ e q.1 in
        let ty = an_operation at op (sound a sc (length sc) Open t.0 t.1) m.0 (sound b sc (length sc)
        (right_expected (is_equality op) t.0.of) u.0 u.1) q.0 r.0 in
        subst (Types env sc k x (binary at op a b)) r.1 ty
    sound (choice at c a b) sc k x e h =
        let t = then_ok (condition env (name_at env c) (elab env c sc (length sc) Open)) _ e h in
        let q = condition_ok env (name_at env c) (elab env c sc (length sc) Open) t.0 t.1 in
        let u = then_ok (elab env a sc (length sc) x) _ e t.2 in
        let v = then_ok (elab env b sc (length sc) x) (chosen env at t.0 u.0 (name_at env b)) e u.2 in
        let s = of_chosen at t.0 u.0 (name_at env b) v.0 e v.2 in
        subst (Types env sc k x (choice at c a b)) s.1
        (a_choice at (sound c sc (length sc) Open t.0 q.0) q.1 (sound a sc (length sc) x u.0 u.1) (sound b sc
        (length sc) x v.0 v.1) s.0)
    sound (matching at b cs) sc k x e h =
        let t = then_ok (elab env b sc (length sc) Open) _ e h in
        let arms = then_ok (elab_cases env [] cs sc x t.0.of) (matched env at t.0) e t.2 in
        of_matched at sc k x b cs t.0 arms.0 e (sound b sc (length sc) Open t.0 t.1)
        (sound_cases cs sc x t.0.of [] arms.0 arms.1) arms.2
    sound (val_in at w t a b) sc k x e h =
        let p = fresh_ok env (clashes w k sc) _ w at _ e h in
        let y = then_ok (val_expected env t) _ e p.1 in
        let u = then_ok (elab env a sc (length sc) y.0) _ e y.2 in
        let v = then_ok (elab env b (sc ++ (w, u.0.of) ∷ []) k x) (valued env at u.0) e u.2 in
        subst (Types env sc k x (val_in at w t a b)) (same_ok _ e v.2)
        (a_val at w p.0 (wanted_ok t y.0 y.1) (sound a sc (length sc) y.0 u.0 u.1) (sound b (sc ++
        (w, u.0.of) ∷ []) k x v.0 v.1))
    sound (assert_in at c b) sc k x e h =
        let t = then_ok (condition env (name_at env c) (elab env c sc (length sc) Open)) _ e h in
        let q = condition_ok env (name_at env c) (elab env c sc (length sc) Open) t.0 t.1 in
        let u = then_ok (elab env b sc k x) (asserted env at t.0) e t.2 in
        subst (Types env sc k x (assert_in at c b)) (same_ok _ e u.2)
        (an_assert at (sound c sc (length sc) Open t.0 q.0) q.1 (sound b sc k x u.0 u.1))

    -- the arguments that were taken are these after the earlier ones
    pub sound_args : (es : Trees) (sc : Scope) (ps : List GenericSort) (found : Found) (done : List TypedExpr)
        (r : Taken)
        → count es ≡ length ps → elab_args env done es sc ps found ≡ Ok r
        → (ts : List TypedExpr) × (done ++ ts ≡ r.0) × TypesArgs env sc ps found es ts r.1
    sound_args no_trees sc [] found done r n h =
        let q = same_ok (done, found) r h in (
          [],
          append-nil done ∙ ap (λ z. z.0) q,
          subst (λ f. TypesArgs env sc [] found no_trees [] f) (ap
              (λ z. z.1) q) no_arg,
        )
    sound_args no_trees sc (p ∷ ps) found done r n h = cc
    sound_args (more_trees e es) sc [] found done r n h = cc
    sound_args (more_trees e es) sc (p ∷ ps) found done r n h =
        let t = then_ok (elab env e sc (length sc) (expect found p)) _ r h in
        let a = then_ok (taken env p (name_at env e) found t.0) _ r t.2 in
        let q = taken_ok p (name_at env e) found t.0 a.0 a.1 in
        let h2 = subst (λ z. elab_args env (done ++ z.0 ∷ []) es sc ps z.1 ≡ Ok r) (sym q.1) a.2 in
        let rest = sound_args es sc ps (learn p (exact t.0.of) found) (done ++ t.0 ∷ []) r (cc) h2 in (
          t.0 ∷ rest.0,
          sym (append_assoc done (t.0 ∷ []) rest.0)
              ∙ rest.1,
          one_arg p (sound e sc (length sc) (expect found p) t.0 t.1) q.0 rest.2,
        )

    -- the cases are these after the earlier ones, where the first of all gives their sort
    pub sound_cases : (cs : CaseTrees) (sc : Scope) (x : Expected) (s : GenericSort) (done r : List TypedCase)
        → elab_cases env done cs sc x s ≡ Ok r
        → (arms : List TypedCase) × (done ++ arms ≡ r) × ((of : GenericSort) → First r of
        → TypesCases env sc x s of cs arms)
    sound_cases no_cases sc x s done r h = ([], append-nil done ∙ same_ok done r h, λ of first. no_case)
    sound_cases (plain_case p body cs) sc x s done r h =
        let a = then_ok (plain_arm env done (elab_pattern env p s (length sc) sc) (name_at env body)
        (λ after. elab env body after (length after) x)) _ r h in
        let q = then_ok (elab_pattern env p s (length sc) sc) _ a.0 a.1 in
        let t = then_ok (elab env body q.0.1 (length q.0.1) x) _ a.0 q.2 in
        let u = then_ok (alike env done (name_at env body) t.0) _ a.0 t.2 in
        let is = same_ok (arm env q.0.0 None u.0) a.0 u.2 in
        let h2 = subst (λ z. elab_cases env (done ++ z ∷ []) cs sc x s ≡ Ok r) (sym is) a.2 in
        let l = alike_ok done (name_at env body) t.0 u.0 u.1 in
        let rest = sound_cases cs sc x s (done ++ arm env q.0.0 None u.0 ∷ []) r h2 in
        let ty = sound body q.0.1 (length q.0.1) x u.0 (t.1 ∙ ap Ok l.0) in (
          arm env q.0.0 None u.0 ∷ rest.0,
          sym (append_assoc done (arm env q.0.0 None u.0 ∷ []) rest.0) ∙ rest.1,
          λ of first. one_case (sound_pattern env p s (length sc) sc q.0 q.1) ty
              (l.1 q.0.0 None rest.0 of (subst (λ z. First z of) (sym rest.1) first)) (rest.2 of first),
        )
    sound_cases (guarded_case p guard body cs) sc x s done r h =
        let a = then_ok (guarded_arm env done (elab_pattern env p s (length sc) sc) (name_at env guard)
        (λ after. elab env guard after (length after) Open) (name_at env body) (λ after. elab env body after
        (length after) x)) _ r h in
        let q = then_ok (elab_pattern env p s (length sc) sc) _ a.0 a.1 in
        let g = then_ok (condition env (name_at env guard) (elab env guard q.0.1 (length q.0.1) Open)) _ a.0 q.2 in
        let b = condition_ok env (name_at env guard) (elab env guard q.0.1 (length q.0.1) Open) g.0 g.1 in
        let t = then_ok (elab env body q.0.1 (length q.0.1) x) _ a.0 g.2 in
        let u = then_ok (alike env done (name_at env body) t.0) _ a.0 t.2 in
        let is = same_ok (arm env q.0.0 (Some g.0) u.0) a.0 u.2 in
        let h2 = subst (λ z. elab_cases env (done ++ z ∷ []) cs sc x s ≡ Ok r) (sym is) a.2 in
        let l = alike_ok done (name_at env body) t.0 u.0 u.1 in
        let rest = sound_cases cs sc x s (done ++ arm env q.0.0 (Some g.0) u.0 ∷ []) r h2 in
        let ty = sound body q.0.1 (length q.0.1) x u.0 (t.1 ∙ ap Ok l.0) in (
          arm env q.0.0 (Some g.0) u.0 ∷ rest.0,
          sym (append_assoc done (arm env q.0.0 (Some g.0) u.0 ∷ []) rest.0)
              ∙ rest.1,
          λ of first. one_guarded (sound_pattern env p s (length sc) sc q.0 q.1) (sound guard q.0.1
              (length q.0.1) Open g.0 b.0) b.1 ty
              (l.1 q.0.0 (Some g.0) rest.0 of (subst (λ z. First z of) (sym rest.1) first)) (rest.2 of first),
        )

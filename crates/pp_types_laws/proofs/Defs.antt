-- A function that has a typing is sorted.
use Rattle.std.proofs.Common.{◌≡◌, ◌∙◌, ℕ, suc, ◌≤◌, List, [], ◌∷◌, ◌++◌, All, Option, Some, None, length, slice_get}
use Rattle.std.proofs.Common.{refl, sym, ap, subst, arith}
use Rattle.std.proofs.lemmas.List.Elements.{All-nil, All-cons}
use Rattle.pp_names.specs.Places.{Word}
use Rattle.pp_rules.specs.Bodies.{TypesConditions, no_condition, one_condition, TypesMeasure, no_component}
use Rattle.pp_rules.specs.Bodies.{one_component, TypesPost, no_post, a_post, TypesDef, a_def, def_scope, param_scope}
use Rattle.pp_rules.specs.Bodies.{typed_def, typed_params}
use Rattle.pp_rules.specs.Scope.{Scope}
use Rattle.pp_tree.specs.Plain.{ParamTree, Tree, PostTree, DefTree}
use Rattle.pp_typed.specs.InRange.{IsInRange, AreInRange}
use Rattle.pp_typed.specs.Sorted.{IsSorted, param_sorts}
use Rattle.pp_typed.specs.WellSorted.{IsDef, IsPlain, IsPost, most_fields, most_type_params}
use Rattle.pp_typed.specs.declared.declared.Declared.{Declared}
use Rattle.pp_typed.specs.declared.declared.Signature.{Signature}
use Rattle.pp_typed.specs.declared.expr.TypedExpr.{TypedExpr}
use Rattle.pp_typed.specs.declared.sort.GenericSort.{GenericSort}
use Rattle.pp_typed.specs.declared.sort.GenericSort.TheVariants as sort
use Rattle.pp_typed.specs.declared.typed.Typed.{Typed}
use Rattle.pp_typed.specs.declared.typed.TypedCtor.{TypedCtor}
use Rattle.pp_typed.specs.declared.typed.TypedDef.{TypedDef}
use Rattle.pp_typed.specs.declared.typed.TypedParam.{TypedParam}
use Rattle.pp_typed.specs.declared.typed.TypedPost.{TypedPost}
use Rattle.pp_types_laws.proofs.Callees.{IsFunctionAs}
use Rattle.pp_types_laws.proofs.Exact.{exact_is, suited}
use Rattle.pp_types_laws.proofs.Patterns.{HasFields, sorts_append, sorts_in, typed_of}
use Rattle.pp_types_laws.proofs.Ranges.{exact_in_range}
use Rattle.pp_types_laws.proofs.Sorted.{env, Ranges, ranges_with, well}
use Rattle.pp_types_laws.specs.Literals.{DefInts, ListInts, PostInts}
use Rattle.pp_types_laws.specs.Ranges.{open_expectable}

pub params_sorts : (ps : List ParamTree) (ss : List GenericSort) → length ps ≡ length ss
    → param_sorts (typed_params ps ss) ≡ ss
params_sorts [] [] e = refl
params_sorts [] (s ∷ ss) e = cc
params_sorts (p ∷ ps) [] e = cc
params_sorts (p ∷ ps) (s ∷ ss) e = ap (λ l. s ∷ l) (params_sorts ps ss (let f : suc (length ps) ≡ suc
    (length ss) = e in cc))

scope_sorts : (ps : List TypedParam) → sorts_in (param_scope ps) ≡ param_sorts ps
scope_sorts [] = refl
scope_sorts (p ∷ ps) = ap (λ l. p.of ∷ l) (scope_sorts ps)

params_count : (ps : List ParamTree) (ss : List GenericSort) → length ps ≡ length ss
    → length (typed_params ps ss) ≡ length ps
params_count [] ss e = refl
params_count (p ∷ ps) [] e = cc
params_count (p ∷ ps) (s ∷ ss) e = ap suc (params_count ps ss (let f : suc (length ps) ≡ suc (length ss) = e in cc))

module _ (declared : Declared) (defs : List TypedDef)
    (functions : (i : ℕ) (s : Signature) → slice_get declared.functions i ≡ Some s → IsFunctionAs declared defs i s)
    (ctors : (i : ℕ) (c : TypedCtor) → slice_get declared.ctors i ≡ Some c → HasFields declared.roots c) where
  abbrev t : Typed
  t = typed_of declared defs

  -- an expression is sorted, with this sort
  abbrev Has : ℕ → List GenericSort → GenericSort → TypedExpr → Type 0
  Has m scope s e = IsSorted t m scope e × (e.of ≡ s)

  -- the claim of a postcondition sees the result after the parameters
  abbrev Claims : ℕ → List GenericSort → GenericSort → Option TypedPost → Type 0
  Claims n scope s None = Unit {0}
  Claims n scope s (Some post) = Has n (scope ++ s ∷ []) sort.Bool post.claim

  module _ (params : List Word) (function : Word) (source : ℕ) where
    abbrev m : ℕ
    m = length params

    conditions_well : {sc : Scope} {cs : List Tree} {ts : List TypedExpr}
        → TypesConditions (env declared defs params function source functions ctors) sc cs ts
        → Ranges declared defs params function source functions ctors sc → ListInts cs
        → All (Has m (sorts_in sc) sort.Bool) ts
    conditions_well {sc} no_condition ok ints = All-nil (Has m (sorts_in sc) sort.Bool)
    conditions_well {sc} (one_condition {t = u} {ts = us} first is rest) ok ints =
        let w = well declared defs params function source functions ctors first ok (open_expectable refl) ints.0 in
        All-cons (Has m (sorts_in sc) sort.Bool) u us (w.is_sorted, is) (conditions_well rest ok ints.1)

    measure_well : {sc : Scope} {es : List Tree} {ts : List TypedExpr}
        → TypesMeasure (env declared defs params function source functions ctors) sc es ts
        → Ranges declared defs params function source functions ctors sc → ListInts es
        → All (IsSorted t m (sorts_in sc)) ts
    measure_well {sc} no_component ok ints = All-nil (IsSorted t m (sorts_in sc))
    measure_well {sc} (one_component {t = u} {ts = us} first rest) ok ints =
        let w = well declared defs params function source functions ctors first ok (open_expectable refl) ints.0 in
        All-cons (IsSorted t m (sorts_in sc)) u us w.is_sorted (measure_well rest ok ints.1)

    post_well : {sc : Scope} {s : GenericSort} {p : Option PostTree} {q : Option TypedPost}
        → TypesPost (env declared defs params function source functions ctors) sc s p q
        → Ranges declared defs params function source functions ctors sc → IsInRange declared.roots m s → PostInts p
        → Claims m (sorts_in sc) s q
    post_well no_post ok h ints = tt
    post_well {sc} {s} (a_post {t = u} p free written claim is) ok h ints =
        let w = well declared defs params function source functions ctors claim
        (ranges_with declared defs params function source functions ctors sc p.name s ok h) (open_expectable refl)
        ints in
        (subst (λ l. IsSorted t m l u) (sorts_append sc p.name s) w.is_sorted, is)

  -- what the parameters of a function are
  pub record IsDeclaredAs (d : DefTree) (s : Signature) : Type 0 where
    pub type_params : s.type_params ≡ length d.type_params
    pub count : length d.params ≡ length s.params
    pub params : AreInRange declared.roots s.type_params s.params
    pub result : IsInRange declared.roots s.type_params s.result
    pub few_type_params : length d.type_params ≤ most_type_params
    pub few_params : length d.params ≤ most_fields
    pub plain : IsPlain d.name

  claims_is : (def : TypedDef) (q : Option TypedPost)
      → Claims def.type_params (param_sorts def.params) def.result q → IsPost t def q
  claims_is def None h = tt
  claims_is def (Some post) h = h

  pub def_well : (source : ℕ) (d : DefTree) (s : Signature) (def : TypedDef) → TypesDef declared source d s def
      → IsDeclaredAs d s → DefInts d → IsDef t def
  def_well source d s def (a_def {pre} {measure} {body} {post} conditions components expression claim) h ints =
      let scope : sorts_in (def_scope d s) ≡ param_sorts (typed_params d.params s.params) =
      scope_sorts (typed_params d.params s.params) in
      let sorts : param_sorts (typed_params d.params s.params) ≡ s.params = params_sorts d.params s.params h.count in
      let n : s.type_params ≡ length d.type_params = h.type_params in
      let ok : AreInRange declared.roots (length d.type_params) (sorts_in (def_scope d s)) =
      subst (AreInRange declared.roots (length d.type_params)) (sym (scope ∙ sorts))
      (subst (λ k. AreInRange declared.roots k s.params) n h.params) in
      let result : IsInRange declared.roots (length d.type_params) s.result =
      subst (λ k. IsInRange declared.roots k s.result) n h.result in
      let pre_well = conditions_well d.type_params d.name source conditions ok ints.0 in
      let measure_is = measure_well d.type_params d.name source components ok ints.1 in
      let body_well = well declared defs d.type_params d.name source functions ctors expression ok
      (exact_in_range declared.roots (length d.type_params) result) ints.2 in
      let post_is = post_well d.type_params d.name source claim ok result ints.3 in
      record {
        few_type_params = omega (arith, n, h.few_type_params);
        few_params = omega (arith, params_count d.params s.params h.count, h.few_params);
        params = subst (AreInRange declared.roots s.type_params) (sym sorts) h.params;
        result = h.result;
        pre = subst (λ k. All (Has k (param_sorts (typed_params d.params s.params)) sort.Bool) pre) (sym n)
            (subst (λ l. All (Has (length d.type_params) l sort.Bool) pre) scope pre_well);
        measure = subst (λ k. All (IsSorted t k (param_sorts (typed_params d.params s.params))) measure) (sym n)
            (subst (λ l. All (IsSorted t (length d.type_params) l) measure) scope measure_is);
        body = (
          subst (λ k. IsSorted t k (param_sorts (typed_params d.params s.params)) body) (sym n)
              (subst (λ l. IsSorted t (length d.type_params) l body) scope body_well.is_sorted),
          exact_is declared.roots (length d.type_params) result body.of (suited
              (env declared defs d.type_params d.name source functions ctors) expression),
        );
        post = claims_is (typed_def source d s pre measure body post) post
            (subst (λ k. Claims k (param_sorts (typed_params d.params s.params)) s.result post) (sym n)
            (subst (λ l. Claims (length d.type_params) l s.result post) scope post_is));
        plain = h.plain;
      }

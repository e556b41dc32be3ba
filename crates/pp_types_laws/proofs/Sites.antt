-- The sites of a typing are among those of its units, in order.
use Rattle.std.proofs.Common.{◌≡◌, ◌∙◌, ℕ, List, [], ◌∷◌, ◌++◌, All, Option, Some, None, map, refl, sym, ap, subst}
use Rattle.std.proofs.Common.{Bool, true, false}
use Rattle.std.proofs.lemmas.List.{append-nil}
use Rattle.std.proofs.lemmas.List.Elements.{All-nil, All-cons, All-append}
use Rattle.pp_list.specs.Joined.{joined}
use Rattle.pp_declared.proofs.Steps.{all_first, all_rest}
use Rattle.pp_declared.specs.Listed.{DefIn}
use Rattle.pp_generic.specs.Expected.{Found}
use Rattle.pp_generic.specs.declared.expected.Expected.{Expected}
use Rattle.pp_rules.specs.declared.callee.Callee.{Callee}
use Rattle.pp_rules.specs.declared.callee.Target.{Target}
use Rattle.pp_rules.specs.declared.callee.Target.TheVariants.{Function, Ctor}
use Rattle.pp_rules.specs.Bodies.{TypesConditions, no_condition, one_condition, TypesMeasure, no_component}
use Rattle.pp_rules.specs.Bodies.{one_component, TypesPost, no_post, a_post, TypesDef, a_def, env_of_def}
use Rattle.pp_rules.specs.Elab.{typed}
use Rattle.pp_rules.specs.Scope.{Env, Scope}
use Rattle.pp_rules.specs.Shapes.{application}
use Rattle.pp_rules.specs.Typing.{Types, an_int, a_bool, a_local, a_name, an_application, a_field, a_prefix}
use Rattle.pp_rules.specs.Typing.{an_operation, a_choice, a_match, a_val, an_assert, Applies, applies, TypesArgs}
use Rattle.pp_rules.specs.Typing.{no_arg, one_arg, TypesCases, no_case, one_case, one_guarded}
use Rattle.pp_operators.specs.Classes.{is_division}
use Rattle.pp_tree.specs.declared.operator.BinaryOp.{BinaryOp}
use Rattle.pp_tree.specs.Plain.{Tree, int, bool, name, apply, field, unary, binary, choice, matching, val_in, assert_in}
use Rattle.pp_tree.specs.Plain.{Trees, no_trees, more_trees, TypeTrees, CaseTrees, no_cases, plain_case, guarded_case}
use Rattle.pp_tree.specs.Plain.{DefTree, PostTree, UnitTree}
use Rattle.pp_typed.specs.Apart.{AreApart, Below, InSource, IsApart, Mark, a_call, a_match, an_assertion, case_marks}
use Rattle.pp_typed.specs.Apart.{def_marks, division_mark, expr_marks, kind_marks, marks, operator_mark, post_marks}
use Rattle.pp_typed.specs.declared.declared.Declared.{Declared}
use Rattle.pp_typed.specs.declared.declared.Signature.{Signature}
use Rattle.pp_typed.specs.declared.expr.TypedCase.{TypedCase}
use Rattle.pp_typed.specs.declared.expr.TypedExpr.{TypedExpr}
use Rattle.pp_typed.specs.declared.expr.TypedKind.{TypedKind}
use Rattle.pp_typed.specs.declared.expr.TypedKind.TheVariants as kind
use Rattle.pp_typed.specs.declared.sort.GenericSort.{GenericSort}
use Rattle.pp_typed.specs.declared.typed.Typed.{Typed}
use Rattle.pp_typed.specs.declared.typed.TypedDef.{TypedDef}
use Rattle.pp_typed.specs.declared.typed.TypedPost.{TypedPost}
use Rattle.pp_typed_forms.proofs.Folds.{of_case, of_kind, assert_is, binary_is, bool_is, call_is, case_is, construct_is}
use Rattle.pp_typed_forms.proofs.Folds.{expr_is, field_is, if_is, int_is, local_is, match_is, unary_is, val_is}
use Rattle.pp_types_laws.proofs.Kept.{IsPart, none_left, kept, joins, nothing_of, part_all, part_once, whole}
use Rattle.pp_types_laws.specs.Sites.{AreOnce, HaveSitesApart, all_sites, case_sites, def_sites, list_sites, post_sites}
use Rattle.pp_types_laws.specs.Sites.{sites}
use Rattle.pp_types_laws.specs.Typing.{HasTyping, TypesDefs, no_defs, more_defs}

abbrev below : TypedKind → Below
below = of_kind kind_marks case_marks expr_marks

abbrev in_case : TypedCase → List Mark
in_case = of_case kind_marks case_marks expr_marks

module _ (env : Env) where
  abbrev source : ℕ
  source = env.source

  -- a node, with the marks of its kind
  node : (at : ℕ) (of : GenericSort) (k : TypedKind) (m : Below) (ys : List Mark) → below k ≡ m
      → IsPart (m (source, at)) ys
      → IsPart (marks (typed env at of k)) ys
  node at of k m ys is p =
      subst (λ l. IsPart l ys)
      (sym (expr_is kind_marks case_marks expr_marks (typed env at of k) ∙ ap (λ (f : Below). f (source, at)) is)) p

  -- an application, of whose target a site is a call
  application_part : (at : ℕ) (of : GenericSort) (t : Target) (ss : List GenericSort) (us : List TypedExpr)
      (ys : List Mark)
      → IsPart (joined (map marks us)) ys
      → IsPart (marks (typed env at of (application t ss us))) (ys ++ (a_call, (source, at)) ∷ [])
  application_part at of (Function i) ss us ys p =
      node at of (kind.Call i ss us) (λ here. joined (map marks us) ++ (a_call, here) ∷ []) (ys ++ (
        a_call,
        (source, at),
      ) ∷ [])
      (call_is kind_marks case_marks expr_marks i ss us) (joins p (whole ((a_call, (source, at)) ∷ [])))
  application_part at of (Ctor i) ss us ys p =
      node at of (kind.Construct i ss us) (λ here. joined (map marks us)) (ys ++ (a_call, (source, at)) ∷ [])
      (construct_is kind_marks case_marks expr_marks i ss us)
      (subst (λ l. IsPart l (ys ++ (a_call, (source, at)) ∷ [])) (append-nil (joined (map marks us)))
      (joins p (nothing_of ((a_call, (source, at)) ∷ []))))

  mutual
    part : {sc : Scope} {k : ℕ} {x : Expected} {e : Tree} {u : TypedExpr} → Types env sc k x e u
        → IsPart (marks u) (sites source e)
    part (an_int at n suits) = node at _ (kind.Int n) (λ here. []) []
        (int_is kind_marks case_marks expr_marks n) none_left
    part (a_bool at b suits) = node at _ (kind.Bool b) (λ here. []) []
        (bool_is kind_marks case_marks expr_marks b) none_left
    part (a_local at w i l place there suits) =
        node at l.1 (kind.Local i) (λ here. []) ((a_call, (source, at)) ∷ [])
        (local_is kind_marks case_marks expr_marks i)
        (nothing_of ((a_call, (source, at)) ∷ []))
    part (a_name at w c none is applied) = part_applied applied
    part (an_application at w c is applied) = part_applied applied
    part (a_field {t = base} at w r c j args s b is only place has suits) =
        node at _ (kind.Field base j) (λ here. marks base) _ (field_is kind_marks case_marks expr_marks base j) (part b)
    part (a_prefix {t = operand} at op a is suits) =
        node at _ (kind.Unary op operand) (λ here. marks operand) _
        (unary_is kind_marks case_marks expr_marks op operand) (part a)
    part (an_operation {t = l} {u = r} at op a admitted b taken suits) =
        node at _ (kind.Binary op l r) (λ here. marks l ++ marks r ++ operator_mark op here) _
        (binary_is kind_marks case_marks expr_marks op l r) (joins (joins (part a) (part b)) (whole
        (operator_mark op (source, at))))
    part (a_choice {t = t} {u = u} {v = v} at c is a b same) =
        node at _ (kind.If t u v) (λ here. marks t ++ marks u ++ marks v) _
        (if_is kind_marks case_marks expr_marks t u v)
        (joins (joins (part c) (part a)) (part b))
    part (a_match {t = t} {c = c} {arms = arms} at s e cases) =
        node at s (kind.Match t (c ∷ arms)) (λ here. marks t ++ (a_match, here) ∷ joined (map in_case (c ∷ arms))) _
        (match_is kind_marks case_marks expr_marks t (c ∷ arms))
        (joins (part e) (kept (a_match, (source, at)) (part_cases cases)))
    part (a_val {u = u} {v = v} at w new wants a b) =
        node at _ (kind.Val u v) (λ here. marks u ++ marks v) _ (val_is kind_marks case_marks expr_marks u v)
        (joins (part a) (part b))
    part (an_assert {t = t} {u = u} at c is e) =
        node at _ (kind.Assert t u) (λ here. marks t ++ (an_assertion, here) ∷ marks u) _
        (assert_is kind_marks case_marks expr_marks t u) (joins (part c) (kept (an_assertion, (source, at)) (part e)))

    part_applied : {sc : Scope} {at : ℕ} {x : Expected} {ts : TypeTrees} {c : Callee} {es : Trees} {u : TypedExpr}
        → Applies env sc at x ts c es u → IsPart (marks u) (all_sites source es ++ (a_call, (source, at)) ∷ [])
    part_applied {c = c} {es = es} (applies {us = us} at sorts starts args all suits) =
        application_part at _ c.target sorts us (all_sites source es) (part_args args)

    part_args : {sc : Scope} {ps : List GenericSort} {found after : Found} {es : Trees} {us : List TypedExpr}
        → TypesArgs env sc ps found es us after → IsPart (joined (map marks us)) (all_sites source es)
    part_args no_arg = none_left
    part_args (one_arg p first is rest) = joins (part first) (part_args rest)

    part_cases : {sc : Scope} {x : Expected} {s of : GenericSort} {cs : CaseTrees} {arms : List TypedCase}
        → TypesCases env sc x s of cs arms → IsPart (joined (map in_case arms)) (case_sites source cs)
    part_cases no_case = none_left
    part_cases (one_case {body = body} {cs = cs} {q = q} {t = t} {arms = arms} p typed is rest) =
        joins (subst (λ l. IsPart l (sites source body)) (sym (case_is kind_marks case_marks expr_marks q None t))
        (part typed))
        (part_cases rest)
    part_cases (one_guarded {guard = guard} {body = body} {q = q} {g = g} {t = t} p test is_test typed is rest) =
        joins (subst (λ l. IsPart l (sites source guard ++ sites source body))
        (sym (case_is kind_marks case_marks expr_marks q (Some g) t)) (joins (part test) (part typed)))
        (part_cases rest)

  part_conditions : {sc : Scope} {cs : List Tree} {ts : List TypedExpr} → TypesConditions env sc cs ts
      → IsPart (joined (map marks ts)) (list_sites source cs)
  part_conditions no_condition = none_left
  part_conditions (one_condition first is rest) = joins (part first) (part_conditions rest)

  part_measure : {sc : Scope} {cs : List Tree} {ts : List TypedExpr} → TypesMeasure env sc cs ts
      → IsPart (joined (map marks ts)) (list_sites source cs)
  part_measure no_component = none_left
  part_measure (one_component first rest) = joins (part first) (part_measure rest)

  part_post : {sc : Scope} {s : GenericSort} {p : Option PostTree} {q : Option TypedPost} → TypesPost env sc s p q
      → IsPart (post_marks q) (post_sites source p)
  part_post no_post = none_left
  part_post (a_post p free written claim is) = part claim

part_def : (declared : Declared) (d : DefIn) (s : Signature) (t : TypedDef) → TypesDef declared d.source d.def s t
    → IsPart (def_marks t) (def_sites d.source d.def)
part_def declared d s t (a_def conditions components body claim) =
    let env = env_of_def declared d.source d.def in
    joins (joins (joins (part_conditions env conditions) (part_measure env components)) (part env body))
    (part_post env claim)

-- all sites of a function are in its source
module _ (n : ℕ) where
  abbrev Here : Mark → Type 0
  Here m = m.1.0 ≡ n

  division_here : (b : Bool) (at : ℕ) → All Here (division_mark b (n, at))
  division_here true at = All-cons Here _ [] refl (All-nil Here)
  division_here false at = All-nil Here

  operator_here : (op : BinaryOp) (at : ℕ) → All Here (operator_mark op (n, at))
  operator_here op at = division_here (is_division op) at

  mutual
    sites_here : (e : Tree) → All Here (sites n e)
    sites_here (int at v) = All-nil Here
    sites_here (bool at b) = All-nil Here
    sites_here (name at w) = All-cons Here _ [] refl (All-nil Here)
    sites_here (apply at w ts es) =
        All-append Here (all_sites n es) ((a_call, (n, at)) ∷ []) (all_here es) (All-cons Here _ [] refl (All-nil Here))
    sites_here (field at e w) = sites_here e
    sites_here (unary at op a) = sites_here a
    sites_here (binary at op a b) =
        All-append Here (sites n a ++ sites n b) (operator_mark op (n, at))
        (All-append Here (sites n a) (sites n b) (sites_here a) (sites_here b)) (operator_here op at)
    sites_here (choice at c a b) =
        All-append Here (sites n c ++ sites n a) (sites n b) (All-append Here (sites n c) (sites n a) (sites_here c)
        (sites_here a))
        (sites_here b)
    sites_here (matching at e cs) =
        All-append Here (sites n e) ((a_match, (n, at)) ∷ case_sites n cs) (sites_here e)
        (All-cons Here _ (case_sites n cs) refl (cases_here cs))
    sites_here (val_in at w t a b) = All-append Here (sites n a) (sites n b) (sites_here a) (sites_here b)
    sites_here (assert_in at c e) =
        All-append Here (sites n c) ((an_assertion, (n, at)) ∷ sites n e) (sites_here c)
        (All-cons Here _ (sites n e) refl (sites_here e))

    all_here : (es : Trees) → All Here (all_sites n es)
    all_here no_trees = All-nil Here
    all_here (more_trees e es) = All-append Here (sites n e) (all_sites n es) (sites_here e) (all_here es)

    cases_here : (cs : CaseTrees) → All Here (case_sites n cs)
    cases_here no_cases = All-nil Here
    cases_here (plain_case p body cs) = All-append Here (sites n body) (case_sites n cs) (sites_here body)
        (cases_here cs)
    cases_here (guarded_case p guard body cs) =
        All-append Here (sites n guard ++ sites n body) (case_sites n cs)
        (All-append Here (sites n guard) (sites n body) (sites_here guard) (sites_here body)) (cases_here cs)

  list_here : (es : List Tree) → All Here (list_sites n es)
  list_here [] = All-nil Here
  list_here (e ∷ es) = All-append Here (sites n e) (list_sites n es) (sites_here e) (list_here es)

  post_here : (p : Option PostTree) → All Here (post_sites n p)
  post_here None = All-nil Here
  post_here (Some p) = sites_here p.claim

  def_here : (d : DefTree) → All Here (def_sites n d)
  def_here d =
      All-append Here (list_sites n d.pre ++ list_sites n d.measure ++ sites n d.body) (post_sites n d.post)
      (All-append Here (list_sites n d.pre ++ list_sites n d.measure) (sites n d.body)
      (All-append Here (list_sites n d.pre) (list_sites n d.measure) (list_here d.pre) (list_here d.measure))
      (sites_here d.body))
      (post_here d.post)

source_of : (declared : Declared) (d : DefIn) (s : Signature) (t : TypedDef) → TypesDef declared d.source d.def s t
    → t.source ≡ d.source
source_of declared d s t (a_def conditions components body claim) = refl

abbrev SitesDiffer : DefIn → Type 0
SitesDiffer d = AreOnce (def_sites d.source d.def)

apart_defs : (declared : Declared) {ds : List DefIn} {ss : List Signature} {ts : List TypedDef}
    → TypesDefs declared ds ss ts
    → All SitesDiffer ds → All IsApart ts
apart_defs declared no_defs h = All-nil IsApart
apart_defs declared (more_defs {d} {ds} {s} {ss} {t} {ts} first rest) h =
    All-cons IsApart t ts (part_once (part_def declared d s t first) (all_first SitesDiffer d ds h))
    (apart_defs declared rest (all_rest SitesDiffer d ds h))

in_sources : (declared : Declared) {ds : List DefIn} {ss : List Signature} {ts : List TypedDef}
    → TypesDefs declared ds ss ts
    → All InSource ts
in_sources declared no_defs = All-nil InSource
in_sources declared (more_defs {d} {ds} {s} {ss} {t} {ts} first rest) =
    let here = part_all (Here d.source) (part_def declared d s t first) (def_here d.source d.def) in
    All-cons InSource t ts (subst (λ n. All (Here n) (def_marks t)) (sym (source_of declared d s t first)) here)
    (in_sources declared rest)

-- the sites of a typing are apart where those of its units are
pub typing_apart : (units : List UnitTree) (t : Typed) → HaveSitesApart units → HasTyping units t → AreApart t
typing_apart units t apart h = record {
  apart = apart_defs h.declared h.defs apart;
  in_source = in_sources h.declared
      h.defs;
}

-- A typing has as many nodes of expression as its units, and no match with more cases.
use Rattle.std.proofs.Common.{◌≡◌, ◌∙◌, ℕ, ◌+◌, List, [], ◌∷◌, ◌++◌, Option, Some, None, map, sum, refl, ap, arith}
use Rattle.std.proofs.lemmas.List.Sums.{sum_by-cons}
use Rattle.pp_declared.specs.Listed.{DeclIn, DefIn, decl_in, decls_from, defs_of}
use Rattle.pp_generic.specs.Expected.{Found}
use Rattle.pp_generic.specs.declared.expected.Expected.{Expected}
use Rattle.pp_rules.specs.declared.callee.Callee.{Callee}
use Rattle.pp_rules.specs.declared.callee.Target.{Target}
use Rattle.pp_rules.specs.declared.callee.Target.TheVariants.{Function, Ctor}
use Rattle.pp_rules.specs.Bodies.{TypesConditions, no_condition, one_condition, TypesMeasure, no_component}
use Rattle.pp_rules.specs.Bodies.{one_component, TypesPost, no_post, a_post, TypesDef, a_def, env_of_def}
use Rattle.pp_rules.specs.Elab.{arm, typed}
use Rattle.pp_rules.specs.Scope.{Env, Scope}
use Rattle.pp_rules.specs.Shapes.{application}
use Rattle.pp_rules.specs.Typing.{Types, an_int, a_bool, a_local, a_name, an_application, a_field, a_prefix}
use Rattle.pp_rules.specs.Typing.{an_operation, a_choice, a_match, a_val, an_assert, Applies, applies, TypesArgs}
use Rattle.pp_rules.specs.Typing.{no_arg, one_arg, TypesCases, no_case, one_case, one_guarded}
use Rattle.pp_tree.specs.Count as tree
use Rattle.pp_tree.specs.Plain.{Tree, Trees, TypeTrees, CaseTrees, DeclTree, root, ctor, other, def, PostTree, UnitTree}
use Rattle.pp_typed.specs.Limits.{case_nodes, def_nodes, expr_nodes, kind_nodes, nodes, post_nodes}
use Rattle.pp_typed.specs.declared.declared.Declared.{Declared}
use Rattle.pp_typed.specs.declared.declared.Signature.{Signature}
use Rattle.pp_typed.specs.declared.expr.TypedCase.{TypedCase}
use Rattle.pp_typed.specs.declared.expr.TypedExpr.{TypedExpr}
use Rattle.pp_typed.specs.declared.expr.TypedKind.{TypedKind}
use Rattle.pp_typed.specs.declared.expr.TypedKind.TheVariants as kind
use Rattle.pp_typed.specs.declared.pattern.TypedPattern.{TypedPattern}
use Rattle.pp_typed.specs.declared.sort.GenericSort.{GenericSort}
use Rattle.pp_typed.specs.declared.typed.Typed.{Typed}
use Rattle.pp_typed.specs.declared.typed.TypedDef.{TypedDef}
use Rattle.pp_typed.specs.declared.typed.TypedPost.{TypedPost}
use Rattle.pp_typed_forms.proofs.Folds.{of_case, of_kind, assert_is, binary_is, bool_is, call_is, case_is, construct_is}
use Rattle.pp_typed_forms.proofs.Folds.{expr_is, field_is, if_is, int_is, local_is, match_is, unary_is, val_is}
use Rattle.pp_types_laws.specs.Sizes.{nodes_of_units}
use Rattle.pp_types_laws.specs.Typing.{HasTyping, TypesDefs, no_defs, more_defs}

plus : {a b c d : ℕ} → a ≡ b → c ≡ d → a + c ≡ b + d
plus p q = λ i. p i + q i

abbrev below : TypedKind → ℕ
below = of_kind kind_nodes case_nodes expr_nodes

abbrev in_case : TypedCase → ℕ
in_case = of_case kind_nodes case_nodes expr_nodes

module _ (env : Env) where
  node : (at : ℕ) (of : GenericSort) (k : TypedKind) (n : ℕ) → below k ≡ n → nodes (typed env at of k) ≡ n + 1
  node at of k n is = expr_is kind_nodes case_nodes expr_nodes (typed env at of k) ∙ ap (λ m. m + 1) is

  application_nodes : (t : Target) (ss : List GenericSort) (us : List TypedExpr)
      → below (application t ss us) ≡ sum (map nodes us)
  application_nodes (Function i) ss us = call_is kind_nodes case_nodes expr_nodes i ss us
  application_nodes (Ctor i) ss us = construct_is kind_nodes case_nodes expr_nodes i ss us

  plain_nodes : (p : TypedPattern) (b : TypedExpr) → in_case (arm env p None b) ≡ nodes b
  plain_nodes p b = case_is kind_nodes case_nodes expr_nodes p None b ∙ omega arith

  guarded_nodes : (p : TypedPattern) (g b : TypedExpr) → in_case (arm env p (Some g) b) ≡ nodes g + nodes b
  guarded_nodes p g b = case_is kind_nodes case_nodes expr_nodes p (Some g) b

  mutual
    sized : {sc : Scope} {k : ℕ} {x : Expected} {e : Tree} {u : TypedExpr} → Types env sc k x e u
        → nodes u ≡ tree.nodes e
    sized (an_int at n suits) = node at _ (kind.Int n) 0 (int_is kind_nodes case_nodes expr_nodes n)
    sized (a_bool at b suits) = node at _ (kind.Bool b) 0 (bool_is kind_nodes case_nodes expr_nodes b)
    sized (a_local at w i l place there suits) = node at l.1 (kind.Local i) 0
        (local_is kind_nodes case_nodes expr_nodes i)
    sized (a_name at w c none is applied) = sized_applied applied
    sized (an_application at w c is applied) = sized_applied applied
    sized (a_field {t = base} at w r c j args s b is only place has suits) =
        node at _ (kind.Field base j) (nodes base) (field_is kind_nodes case_nodes expr_nodes base j)
        ∙ ap (λ n. n + 1) (sized b)
    sized (a_prefix {t = operand} at op a is suits) =
        node at _ (kind.Unary op operand) (nodes operand) (unary_is kind_nodes case_nodes expr_nodes op operand)
        ∙ ap (λ n. n + 1) (sized a)
    sized (an_operation {t = l} {u = r} at op a admitted b taken suits) =
        node at _ (kind.Binary op l r) (nodes l + nodes r) (binary_is kind_nodes case_nodes expr_nodes op l r)
        ∙ ap (λ n. n + 1) (plus (sized a) (sized b))
    sized (a_choice {t = t} {u = u} {v = v} at c is a b same) =
        node at _ (kind.If t u v) (nodes t + nodes u + nodes v) (if_is kind_nodes case_nodes expr_nodes t u v)
        ∙ ap (λ n. n + 1) (plus (plus (sized c) (sized a)) (sized b))
    sized (a_match {t = t} {c = c} {arms = arms} at s e cases) =
        node at s (kind.Match t (c ∷ arms)) (nodes t + sum (map in_case (c ∷ arms)))
        (match_is kind_nodes case_nodes expr_nodes t (c ∷ arms))
        ∙ ap (λ n. n + 1) (plus (sized e) (sized_cases cases))
    sized (a_val {u = u} {v = v} at w new wants a b) =
        node at _ (kind.Val u v) (nodes u + nodes v) (val_is kind_nodes case_nodes expr_nodes u v)
        ∙ ap (λ n. n + 1) (plus (sized a) (sized b))
    sized (an_assert {t = t} {u = u} at c is e) =
        node at _ (kind.Assert t u) (nodes t + nodes u) (assert_is kind_nodes case_nodes expr_nodes t u)
        ∙ ap (λ n. n + 1) (plus (sized c) (sized e))

    sized_applied : {sc : Scope} {at : ℕ} {x : Expected} {ts : TypeTrees} {c : Callee} {es : Trees} {u : TypedExpr}
        → Applies env sc at x ts c es u → nodes u ≡ tree.nodes_of es + 1
    sized_applied {c = c} (applies {us = us} at sorts starts args all suits) =
        node at _ (application c.target sorts us) (sum (map nodes us)) (application_nodes c.target sorts us)
        ∙ ap (λ n. n + 1) (sized_args args)

    sized_args : {sc : Scope} {ps : List GenericSort} {found after : Found} {es : Trees} {us : List TypedExpr}
        → TypesArgs env sc ps found es us after → sum (map nodes us) ≡ tree.nodes_of es
    sized_args no_arg = refl
    sized_args (one_arg {t = u} {ts = us} p first is rest) =
        sum_by-cons (λ n. n) (nodes u) (map nodes us) ∙ plus (sized first) (sized_args rest)

    sized_cases : {sc : Scope} {x : Expected} {s of : GenericSort} {cs : CaseTrees} {arms : List TypedCase}
        → TypesCases env sc x s of cs arms → sum (map in_case arms) ≡ tree.case_nodes cs
    sized_cases no_case = refl
    sized_cases (one_case {q = q} {t = t} {arms = arms} p body is rest) =
        sum_by-cons (λ n. n) (in_case (arm env q None t)) (map in_case arms)
        ∙ plus (plain_nodes q t ∙ sized body) (sized_cases rest)
    sized_cases (one_guarded {q = q} {g = g} {t = t} {arms = arms} p guard test body is rest) =
        sum_by-cons (λ n. n) (in_case (arm env q (Some g) t)) (map in_case arms)
        ∙ plus (guarded_nodes q g t ∙ plus (sized guard) (sized body)) (sized_cases rest)

  sized_conditions : {sc : Scope} {cs : List Tree} {ts : List TypedExpr} → TypesConditions env sc cs ts
      → sum (map nodes ts) ≡ tree.list_nodes cs
  sized_conditions no_condition = refl
  sized_conditions (one_condition {t = u} {ts = us} first is rest) =
      sum_by-cons (λ n. n) (nodes u) (map nodes us) ∙ plus (sized first) (sized_conditions rest)

  sized_measure : {sc : Scope} {cs : List Tree} {ts : List TypedExpr} → TypesMeasure env sc cs ts
      → sum (map nodes ts) ≡ tree.list_nodes cs
  sized_measure no_component = refl
  sized_measure (one_component {t = u} {ts = us} first rest) =
      sum_by-cons (λ n. n) (nodes u) (map nodes us) ∙ plus (sized first) (sized_measure rest)

  sized_post : {sc : Scope} {s : GenericSort} {p : Option PostTree} {q : Option TypedPost} → TypesPost env sc s p q
      → post_nodes q ≡ tree.post_nodes p
  sized_post no_post = refl
  sized_post (a_post p free written claim is) = sized claim

sized_def : (declared : Declared) (d : DefIn) (s : Signature) (t : TypedDef) → TypesDef declared d.source d.def s t
    → def_nodes t ≡ tree.decl_nodes (def d.def)
sized_def declared d s t (a_def {pre} {measure} {body} {post} conditions components expression claim) =
    let env = env_of_def declared d.source d.def in
    let a = sized_conditions env conditions in
    let b = sized_measure env components in
    let c = sized env expression in
    let e = sized_post env claim in
    plus (plus (plus a b) c) e

-- the nodes of functions
abbrev defs_nodes : List DefIn → ℕ
defs_nodes [] = 0
defs_nodes (d ∷ ds) = tree.decl_nodes (def d.def) + defs_nodes ds

sized_defs : (declared : Declared) {ds : List DefIn} {ss : List Signature} {ts : List TypedDef}
    → TypesDefs declared ds ss ts
    → sum (map def_nodes ts) ≡ defs_nodes ds
sized_defs declared no_defs = refl
sized_defs declared (more_defs {d} {ds} {s} {ss} {t} {ts} first rest) =
    sum_by-cons (λ n. n) (def_nodes t) (map def_nodes ts)
    ∙ plus (sized_def declared d s t first) (sized_defs declared rest)

of_decls : (n : ℕ) (ds : List DeclTree) (rest : List DeclIn)
    → defs_nodes (defs_of (map (decl_in n) ds ++ rest)) ≡ tree.decls_nodes ds + defs_nodes (defs_of rest)
of_decls n [] rest = omega arith
of_decls n (root c ∷ ds) rest = of_decls n ds rest ∙ omega arith
of_decls n (ctor c ∷ ds) rest = of_decls n ds rest ∙ omega arith
of_decls n (other c ∷ ds) rest = of_decls n ds rest ∙ omega arith
of_decls n (def d ∷ ds) rest = ap (λ m. tree.decl_nodes (def d) + m) (of_decls n ds rest) ∙ omega arith

of_units : (n : ℕ) (us : List UnitTree) → defs_nodes (defs_of (decls_from n us)) ≡ nodes_of_units us
of_units n [] = refl
of_units n (u ∷ us) = of_decls n u.decls (decls_from (n + 1) us) ∙ ap (λ m. tree.unit_nodes u + m) (of_units (n + 1) us)

pub typing_nodes : (units : List UnitTree) (t : Typed) → HasTyping units t
    → sum (map def_nodes t.defs) ≡ nodes_of_units units
typing_nodes units t h = sized_defs h.declared h.defs ∙ of_units 1 units

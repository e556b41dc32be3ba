-- The offsets of a typing are those of its units.
use Rattle.std.proofs.Common.{◌≡◌, ◌∙◌, ℕ, ◌+◌, List, [], ◌∷◌, ◌++◌, All, Option, Some, None, map, option_map, sym, ap}
use Rattle.std.proofs.Common.{subst}
use Rattle.std.proofs.lemmas.List.Elements.{All-nil, All-cons, All-append}
use Rattle.pp_typed.specs.Parts.{case_parts, kind_parts}
use Rattle.pp_list.specs.Joined.{joined, or_none}
use Rattle.pp_declared.proofs.Steps.{all_first, all_rest}
use Rattle.pp_declared.specs.Listed.{DeclIn, DefIn, decl_in, decls_from, defs_of}
use Rattle.pp_generic.specs.Expected.{Found}
use Rattle.pp_generic.specs.declared.expected.Expected.{Expected}
use Rattle.pp_rules.specs.declared.callee.Callee.{Callee}
use Rattle.pp_rules.specs.declared.callee.Target.{Target}
use Rattle.pp_rules.specs.declared.callee.Target.TheVariants.{Function, Ctor}
use Rattle.pp_rules.specs.Bodies.{TypesConditions, no_condition, one_condition, TypesMeasure, no_component}
use Rattle.pp_rules.specs.Bodies.{one_component, TypesPost, no_post, a_post, TypesDef, a_def, env_of_def}
use Rattle.pp_rules.specs.Elab.{arm, typed}
use Rattle.pp_rules.specs.Scope.{Env, Scope}
use Rattle.pp_rules.specs.Shapes.{application}
use Rattle.pp_rules.specs.Typing.{Types, an_int, a_bool, a_local, a_name, an_application, a_field, a_prefix}
use Rattle.pp_rules.specs.Typing.{an_operation, a_choice, a_match, a_val, an_assert, Applies, applies, TypesArgs}
use Rattle.pp_rules.specs.Typing.{no_arg, one_arg, TypesCases, no_case, one_case, one_guarded}
use Rattle.pp_tree.specs.Offsets.{AllOffsets, CaseOffsets, DeclOffsets, DeclsOffsets, ListOffsets, Offsets, PostOffsets}
use Rattle.pp_tree.specs.Plain.{Tree, Trees, TypeTrees, CaseTrees, DeclTree, root, ctor, other, def, PostTree, UnitTree}
use Rattle.pp_typed.specs.Stand.{Offset, expr_offsets, offsets}
use Rattle.pp_typed.specs.Stand as stand
use Rattle.pp_typed.specs.declared.declared.Declared.{Declared}
use Rattle.pp_typed.specs.declared.declared.Signature.{Signature}
use Rattle.pp_typed.specs.declared.expr.TypedCase.{TypedCase}
use Rattle.pp_typed.specs.declared.expr.TypedExpr.{TypedExpr}
use Rattle.pp_typed.specs.declared.expr.TypedKind.{TypedKind}
use Rattle.pp_typed.specs.declared.expr.TypedKind.TheVariants as kind
use Rattle.pp_typed.specs.declared.pattern.TypedPattern.{TypedPattern}
use Rattle.pp_typed.specs.declared.sort.GenericSort.{GenericSort}
use Rattle.pp_typed.specs.declared.typed.Typed.{Typed}
use Rattle.pp_typed.specs.declared.typed.TypedDef.{TypedDef}
use Rattle.pp_typed.specs.declared.typed.TypedPost.{TypedPost}
use Rattle.pp_typed_forms.proofs.Folds.{of_case, of_kind, assert_is, binary_is, bool_is, call_is, case_is, construct_is}
use Rattle.pp_typed_forms.proofs.Folds.{expr_is, field_is, if_is, int_is, local_is, match_is, unary_is, val_is}
use Rattle.pp_types_laws.specs.Offsets.{DefHas, ExprHas, OffsetsFrom, PostHas, TypedHas, UnitsHave}
use Rattle.pp_types_laws.specs.Typing.{HasTyping, TypesDefs, no_defs, more_defs}

abbrev below : TypedKind → List Offset
below = of_kind kind_parts case_parts expr_offsets

abbrev in_case : TypedCase → List Offset
in_case = of_case kind_parts case_parts expr_offsets

module _ (P : Offset → Type 0) where
  joined_all : (us : List TypedExpr) → All (ExprHas P) us → All P (joined (map offsets us))
  joined_all [] h = All-nil P
  joined_all (u ∷ us) h =
      All-append P (offsets u) (joined (map offsets us)) (all_first (ExprHas P) u us h) (joined_all us (all_rest
      (ExprHas P) u us h))

  module _ (env : Env) where
    abbrev At : ℕ → Type 0
    At at = P (env.source, at)

    -- a node, with the offsets of its parts
    node : (at : ℕ) (of : GenericSort) (k : TypedKind) (parts : List Offset) → below k ≡ parts → At at → All P parts
        → All P (offsets (typed env at of k))
    node at of k parts is p h =
        subst (All P) (sym (expr_is kind_parts case_parts expr_offsets (typed env at of k)
        ∙ ap (λ l. (env.source, at) ∷ l) is))
        (All-cons P (env.source, at) parts p h)

    application_has : (t : Target) (ss : List GenericSort) (us : List TypedExpr)
        → below (application t ss us) ≡ joined (map offsets us)
    application_has (Function i) ss us = call_is kind_parts case_parts expr_offsets i ss us
    application_has (Ctor i) ss us = construct_is kind_parts case_parts expr_offsets i ss us

    case_has : (p : TypedPattern) (g : Option TypedExpr) (b : TypedExpr)
        → in_case (arm env p g b) ≡ or_none (option_map offsets g) ++ offsets b
    case_has p g b = case_is kind_parts case_parts expr_offsets p g b

    mutual
      placed : {sc : Scope} {k : ℕ} {x : Expected} {e : Tree} {u : TypedExpr} → Types env sc k x e u → Offsets At e
          → ExprHas P u
      placed (an_int at n suits) o = node at _ (kind.Int n) [] (int_is kind_parts case_parts expr_offsets n) o
          (All-nil P)
      placed (a_bool at b suits) o = node at _ (kind.Bool b) [] (bool_is kind_parts case_parts expr_offsets b) o
          (All-nil P)
      placed (a_local at w i l place there suits) o =
          node at l.1 (kind.Local i) [] (local_is kind_parts case_parts expr_offsets i) o (All-nil P)
      placed (a_name at w c none is applied) o = placed_applied applied o tt
      placed (an_application at w c is applied) o = placed_applied applied o.0 o.2
      placed (a_field {t = base} at w r c j args s b is only place has suits) o =
          node at _ (kind.Field base j) (offsets base) (field_is kind_parts case_parts expr_offsets base j) o.0
          (placed b o.1)
      placed (a_prefix {t = operand} at op a is suits) o =
          node at _ (kind.Unary op operand) (offsets operand)
          (unary_is kind_parts case_parts expr_offsets op operand) o.0
          (placed a o.1)
      placed (an_operation {t = l} {u = r} at op a admitted b taken suits) o =
          node at _ (kind.Binary op l r) (offsets l ++ offsets r)
          (binary_is kind_parts case_parts expr_offsets op l r) o.0
          (All-append P (offsets l) (offsets r) (placed a o.1) (placed b o.2))
      placed (a_choice {t = t} {u = u} {v = v} at c is a b same) o =
          node at _ (kind.If t u v) (offsets t ++ offsets u ++ offsets v)
          (if_is kind_parts case_parts expr_offsets t u v) o.0
          (All-append P (offsets t ++ offsets u) (offsets v) (All-append P (offsets t) (offsets u) (placed c o.1)
          (placed a o.2))
          (placed b o.3))
      placed (a_match {t = t} {c = c} {arms = arms} at s e cases) o =
          node at s (kind.Match t (c ∷ arms)) (offsets t ++ joined (map in_case (c ∷ arms)))
          (match_is kind_parts case_parts expr_offsets t (c ∷ arms)) o.0
          (All-append P (offsets t) (joined (map in_case (c ∷ arms))) (placed e o.1) (placed_cases cases o.2))
      placed (a_val {u = u} {v = v} at w new wants a b) o =
          node at _ (kind.Val u v) (offsets u ++ offsets v) (val_is kind_parts case_parts expr_offsets u v) o.0
          (All-append P (offsets u) (offsets v) (placed a o.2) (placed b o.3))
      placed (an_assert {t = t} {u = u} at c is e) o =
          node at _ (kind.Assert t u) (offsets t ++ offsets u)
          (assert_is kind_parts case_parts expr_offsets t u) o.0
          (All-append P (offsets t) (offsets u) (placed c o.1) (placed e o.2))

      placed_applied : {sc : Scope} {at : ℕ} {x : Expected} {ts : TypeTrees} {c : Callee} {es : Trees} {u : TypedExpr}
          → Applies env sc at x ts c es u → At at → AllOffsets At es → ExprHas P u
      placed_applied {c = c} (applies {us = us} at sorts starts args all suits) p o =
          node at _ (application c.target sorts us) (joined (map offsets us)) (application_has c.target sorts us) p
          (joined_all us (placed_args args o))

      placed_args : {sc : Scope} {ps : List GenericSort} {found after : Found} {es : Trees} {us : List TypedExpr}
          → TypesArgs env sc ps found es us after → AllOffsets At es → All (ExprHas P) us
      placed_args no_arg o = All-nil (ExprHas P)
      placed_args (one_arg {t = u} {ts = us} p first is rest) o =
          All-cons (ExprHas P) u us (placed first o.0) (placed_args rest o.1)

      placed_cases : {sc : Scope} {x : Expected} {s of : GenericSort} {cs : CaseTrees} {arms : List TypedCase}
          → TypesCases env sc x s of cs arms → CaseOffsets At cs → All P (joined (map in_case arms))
      placed_cases no_case o = All-nil P
      placed_cases (one_case {q = q} {t = t} {arms = arms} p body is rest) o =
          All-append P (in_case (arm env q None t)) (joined (map in_case arms))
          (subst (All P) (sym (case_has q None t)) (placed body o.1)) (placed_cases rest o.2)
      placed_cases (one_guarded {q = q} {g = g} {t = t} {arms = arms} p guard test body is rest) o =
          All-append P (in_case (arm env q (Some g) t)) (joined (map in_case arms))
          (subst (All P) (sym (case_has q (Some g) t)) (All-append P (offsets g) (offsets t) (placed guard o.1)
          (placed body o.2)))
          (placed_cases rest o.3)

    placed_conditions : {sc : Scope} {cs : List Tree} {ts : List TypedExpr} → TypesConditions env sc cs ts
        → ListOffsets At cs
        → All (ExprHas P) ts
    placed_conditions no_condition o = All-nil (ExprHas P)
    placed_conditions (one_condition {t = u} {ts = us} first is rest) o =
        All-cons (ExprHas P) u us (placed first o.0) (placed_conditions rest o.1)

    placed_measure : {sc : Scope} {cs : List Tree} {ts : List TypedExpr} → TypesMeasure env sc cs ts → ListOffsets At cs
        → All (ExprHas P) ts
    placed_measure no_component o = All-nil (ExprHas P)
    placed_measure (one_component {t = u} {ts = us} first rest) o =
        All-cons (ExprHas P) u us (placed first o.0) (placed_measure rest o.1)

    placed_post : {sc : Scope} {s : GenericSort} {p : Option PostTree} {q : Option TypedPost} → TypesPost env sc s p q
        → PostOffsets At p → PostHas P env.source q
    placed_post no_post o = tt
    placed_post (a_post p free written claim is) o = (o.0, placed claim o.2)

  -- each offset of a function of the units
  abbrev pub DefOffsets : DefIn → Type 0
  DefOffsets d = DeclOffsets (λ at. P (d.source, at)) (def d.def)

  placed_def : (declared : Declared) (d : DefIn) (s : Signature) (t : TypedDef)
      → TypesDef declared d.source d.def s t → DefOffsets d
      → DefHas P t
  placed_def declared d s t (a_def conditions components body claim) o =
      let env = env_of_def declared d.source d.def in
      record {
        here = o.0;
        pre = placed_conditions env conditions o.3;
        measure = placed_measure env components o.4;
        body = placed env body o.5;
        post = placed_post env claim o.6;
      }

  placed_defs : (declared : Declared) {ds : List DefIn} {ss : List Signature} {ts : List TypedDef}
      → TypesDefs declared ds ss ts
      → All DefOffsets ds → All (DefHas P) ts
  placed_defs declared no_defs o = All-nil (DefHas P)
  placed_defs declared (more_defs {d} {ds} {s} {ss} {t} {ts} first rest) o =
      All-cons (DefHas P) t ts (placed_def declared d s t first (all_first DefOffsets d ds o))
      (placed_defs declared rest (all_rest DefOffsets d ds o))

  of_decls : (n : ℕ) (ds : List DeclTree) (rest : List DeclIn) → DeclsOffsets (λ at. P (n, at)) ds
      → All DefOffsets (defs_of rest)
      → All DefOffsets (defs_of (map (decl_in n) ds ++ rest))
  of_decls n [] rest o h = h
  of_decls n (root c ∷ ds) rest o h = of_decls n ds rest o.1 h
  of_decls n (ctor c ∷ ds) rest o h = of_decls n ds rest o.1 h
  of_decls n (other c ∷ ds) rest o h = of_decls n ds rest o.1 h
  of_decls n (def d ∷ ds) rest o h =
      All-cons DefOffsets (record { source = n; def = d }) (defs_of (map (decl_in n) ds ++ rest)) o.0
      (of_decls n ds rest o.1 h)

  pub of_units : (n : ℕ) (us : List UnitTree) → OffsetsFrom P n us → All DefOffsets (defs_of (decls_from n us))
  of_units n [] o = All-nil DefOffsets
  of_units n (u ∷ us) o = of_decls n u.decls (decls_from (n + 1) us) o.0.1 (of_units (n + 1) us o.1)

  -- what holds of the offsets of units holds of those of their typing
  pub typing_placed : (units : List UnitTree) (t : Typed) → UnitsHave P units → HasTyping units t → TypedHas P t
  typing_placed units t o h = placed_defs h.declared h.defs (of_units 1 units o)

-- where these are offsets of texts
module _ (texts : List (List ℕ)) where
  post_stands : (source : ℕ) (p : Option TypedPost) → PostHas (stand.Stands texts) source p
      → stand.PostStands texts source p
  post_stands source None h = tt
  post_stands source (Some post) h = h

  defs_stand : (ds : List TypedDef) → All (DefHas (stand.Stands texts)) ds → All (stand.DefStands texts) ds
  defs_stand [] h = All-nil (stand.DefStands texts)
  defs_stand (d ∷ ds) h =
      let f = all_first (DefHas (stand.Stands texts)) d ds h in
      All-cons (stand.DefStands texts) d ds
      (record {
        here = f.here;
        pre = f.pre;
        measure = f.measure;
        body = f.body;
        post = post_stands d.source d.post
            f.post;
      })
      (defs_stand ds (all_rest (DefHas (stand.Stands texts)) d ds h))

  pub typing_stands : (units : List UnitTree) (t : Typed) → UnitsHave (stand.Stands texts) units → HasTyping units t
      → stand.TypedStands texts t
  typing_stands units t o h = defs_stand t.defs (typing_placed (stand.Stands texts) units t o h)

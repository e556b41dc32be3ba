-- A unit that is spelled has no reserved word that the grammar doesn't use.
use Rattle.pp_grammar.specs.Bodies.{Contract, IsBody, IsClosed, IsContract, IsContractBlock, IsContracts, IsHead}
use Rattle.pp_grammar.specs.Bodies.{IsHole, IsLambda, IsMeasure, IsPost, block_alone, closed_block, closed_matched}
use Rattle.pp_grammar.specs.Bodies.{closed_simple, contract_block, dot_ensuring, dot_holds, ensuring, expr_alone}
use Rattle.pp_grammar.specs.Bodies.{head_block, head_infix, head_matched, holds, hole, hole_on_left, hole_on_right}
use Rattle.pp_grammar.specs.Bodies.{last_component, looser_hole, measure, measure_of_tuple, no_contract, of_hole}
use Rattle.pp_grammar.specs.Bodies.{of_name, of_name_in_round, of_typed_name, one_more_component, one_more_contract}
use Rattle.pp_grammar.specs.Bodies.{post_in_braces, post_in_round, prefixed_hole, requirement}
use Rattle.pp_grammar.specs.Exprs.{IsArguments, IsBlock, IsCase, IsCases, IsExpr, IsExprs, IsFields, IsGuard, IsInfix}
use Rattle.pp_grammar.specs.Exprs.{IsMatched, IsPrefix, IsPrimary, IsRest, IsSemicolon, IsSimple, IsStats, arguments}
use Rattle.pp_grammar.specs.Exprs.{assert_stat, at_types, at_types_on_arguments, block, bound, case_of, false_word}
use Rattle.pp_grammar.specs.Exprs.{guard, if_else, in_block, in_round, infix_expr, last_case, last_expr, last_of_exprs}
use Rattle.pp_grammar.specs.Exprs.{looser, match_of, matched, name_alone, negative, no_arguments, no_field, no_guard}
use Rattle.pp_grammar.specs.Exprs.{no_prefix, no_semicolon, number, on_arguments, one_field, one_more_case}
use Rattle.pp_grammar.specs.Exprs.{one_more_expr, operand, operator, prefixed, rest, semicolon, simple, true_word}
use Rattle.pp_grammar.specs.Exprs.{val_stat}
use Rattle.pp_grammar.specs.LeftOut.{first_unused, is_unused}
use Rattle.pp_grammar.specs.Patterns.{IsPattern, IsPatterns, IsPlain, anything, binding, constructor_alone}
use Rattle.pp_grammar.specs.Patterns.{constructor_of, constructor_of_none, false_pattern, last_pattern, named_pattern}
use Rattle.pp_grammar.specs.Patterns.{negated_pattern, number_pattern, one_more_pattern, pattern_in_round}
use Rattle.pp_grammar.specs.Patterns.{signed_pattern, true_pattern, unnamed}
use Rattle.pp_grammar.specs.Types.{IsAscription, IsBreak, IsBreaks, IsGap, IsSemis, IsType, IsTypes, ascribed}
use Rattle.pp_grammar.specs.Types.{last_type, more_newlines, no_newline, no_newlines, no_semi, no_type, one_more_type}
use Rattle.pp_grammar.specs.Types.{one_newline, one_semi, semis, type_name, type_of}
use Rattle.pp_grammar.specs.Units.{IsAnnotations, IsChoice, IsClass, IsDef, IsImport, IsImportText, IsItem, IsItems}
use Rattle.pp_grammar.specs.Units.{IsMember, IsMembers, IsModified, IsMoreItems, IsMoreMembers, IsNames, IsObject}
use Rattle.pp_grammar.specs.Units.{IsPackages, IsParamList, IsParams, IsParent, IsPath, IsTypeParams, Modifiers, Piece}
use Rattle.pp_grammar.specs.Units.{SpellsUnit, case_object, class_of, def_of, empty_list, import_all, import_path}
use Rattle.pp_grammar.specs.Units.{import_some, item_class, item_import, item_object, items, last_chosen, last_name}
use Rattle.pp_grammar.specs.Units.{last_of_path, last_param, library, member_class, member_def, member_import, members}
use Rattle.pp_grammar.specs.Units.{more_of_path, no_annotation, no_items, no_list, no_members, no_modifier}
use Rattle.pp_grammar.specs.Units.{no_more_items, no_more_members, no_package, no_parent, no_type_params, object_of}
use Rattle.pp_grammar.specs.Units.{of_object, one_annotation, one_modifier, one_more_chosen, one_more_item}
use Rattle.pp_grammar.specs.Units.{one_more_member, one_more_name, one_more_param, one_package, param_list, parent}
use Rattle.pp_grammar.specs.Units.{type_params, unit}
use Rattle.pp_grammar_laws.proofs.UsedKinds.{modifier_used, negated_used, negative_used, number_used, semi_used}
use Rattle.pp_grammar_laws.proofs.UsedKinds.{trait_used}
use Rattle.pp_grammar_laws.specs.Laws.{SpellsNone}
use Rattle.pp_tokens.specs.declared.token.Token.{Token}
use Rattle.pp_tree.specs.Plain.{CaseTrees, DeclTree, ParamTree, PatternTree, PatternTrees, PostTree, Tree, Trees}
use Rattle.pp_tree.specs.Plain.{TypeTree, TypeTrees, UnitTree, Word}
use Rattle.std.proofs.Common.{Bool, List, None, Option, Some, [], ap, cond, false, refl, sym, ℕ, ◌∙◌, ◌∷◌, ◌≡◌}

-- none of the tokens is such a word
abbrev Used : List Token → Type 0
Used [] = Unit {0}
Used (t ∷ ts) = (is_unused t.kind ≡ false) × Used ts

module _ (text : Word) where
  used_gap : {ts us : List Token} → IsGap ts us → Used us → Used ts
  used_gap no_semi u = u
  used_gap (one_semi t e1 d2) u = let u0 = used_gap d2 u in (semi_used t.kind e1, u0)

  used_semis : {ts us : List Token} → IsSemis ts us → Used us → Used ts
  used_semis (semis t e1 d2) u = let u0 = used_gap d2 u in (semi_used t.kind e1, u0)

  used_break : {ts us : List Token} → IsBreak ts us → Used us → Used ts
  used_break no_newline u = u
  used_break (one_newline t e1) u = (ap is_unused e1, u)

  used_breaks : {ts us : List Token} → IsBreaks ts us → Used us → Used ts
  used_breaks no_newlines u = u
  used_breaks (more_newlines t e1 d2) u = let u0 = used_breaks d2 u in (ap is_unused e1, u0)

  mutual
    used_type : {ts us : List Token} {x0 : TypeTree} → IsType text ts us x0 → Used us → Used ts
    used_type (type_name t e1) u = (ap is_unused e1, u)
    used_type (type_of t o e1 e2 d3) u = let u0 = used_types d3 u in (ap is_unused e1, (ap is_unused e2, u0))

    used_types : {ts us : List Token} {x0 : TypeTrees} → IsTypes text ts us x0 → Used us → Used ts
    used_types (last_type c d1 e2) u = let u0 = used_type d1 (ap is_unused e2, u) in u0
    used_types (one_more_type c d1 e2 d3) u = let u0 = used_types d3 u in let u1 = used_type d1 (
      ap is_unused e2,
      u0,
    ) in u1

  used_ascription : {ts us : List Token} {x0 : Option TypeTree} → IsAscription text ts us x0 → Used us → Used ts
  used_ascription no_type u = u
  used_ascription (ascribed c e1 d2) u = let u0 = used_type d2 u in (ap is_unused e1, u0)

  mutual
    used_pattern : {ts us : List Token} {x0 : PatternTree} → IsPattern text ts us x0 → Used us → Used ts
    used_pattern (unnamed d1) u = let u0 = used_plain d1 u in u0
    used_pattern (named_pattern n a e1 e2 d3 _) u = let u0 = used_plain d3 u in
        (ap is_unused e1, (ap is_unused e2, u0))

    used_plain : {ts us : List Token} {x0 : PatternTree} → IsPlain text ts us x0 → Used us → Used ts
    used_plain (anything t e1) u = (ap is_unused e1, u)
    used_plain (binding t e1 _) u = (ap is_unused e1, u)
    used_plain (constructor_alone t e1 _) u = (ap is_unused e1, u)
    used_plain (number_pattern t e1) u = (number_used t.kind _ e1, u)
    used_plain (signed_pattern m t e1 _ e3) u = (ap is_unused e1, (negative_used t.kind _ e3, u))
    used_plain (negated_pattern m t e1 _ e3) u = (ap is_unused e1, (negated_used t.kind _ e3, u))
    used_plain (true_pattern t e1) u = (ap is_unused e1, u)
    used_plain (false_pattern t e1) u = (ap is_unused e1, u)
    used_plain (pattern_in_round o c e1 d2 e3) u = let u0 = used_pattern d2 (ap is_unused e3, u) in
        (ap is_unused e1, u0)
    used_plain (constructor_of_none t o c e1 e2 e3) u = (ap is_unused e1, (ap is_unused e2, (ap is_unused e3, u)))
    used_plain (constructor_of t o e1 e2 d3) u = let u0 = used_patterns d3 u in
        (ap is_unused e1, (ap is_unused e2, u0))

    used_patterns : {ts us : List Token} {x0 : PatternTrees} → IsPatterns text ts us x0 → Used us → Used ts
    used_patterns (last_pattern c d1 e2) u = let u0 = used_pattern d1 (ap is_unused e2, u) in u0
    used_patterns (one_more_pattern c d1 e2 d3) u = let u0 = used_patterns d3 u in
        let u1 = used_pattern d1 (ap is_unused e2, u0) in u1

  used_fields : {ts us : List Token} {x0 : Tree} {x1 : Tree} → IsFields text ts us x0 x1 → Used us → Used ts
  used_fields no_field u = u
  used_fields (one_field dot t e1 e2 _ d4) u = let u0 = used_fields d4 u in (ap is_unused e1, (ap is_unused e2, u0))

  used_semicolon : {ts us : List Token} → IsSemicolon ts us → Used us → Used ts
  used_semicolon no_semicolon u = u
  used_semicolon (semicolon t e1) u = (ap is_unused e1, u)

  mutual
    used_expr : {ts us : List Token} {x0 : Tree} → IsExpr text ts us x0 → Used us → Used ts
    used_expr (if_else i o c e e1 e2 d3 e4 d5 d6 d7 e8 d9) u = let u0 = used_expr d9 u in
        let u1 = used_semicolon d7 (ap is_unused e8, u0) in let u2 = used_expr d6 u1 in
        let u3 = used_breaks d5 u2 in let u4 = used_expr d3 (ap is_unused e4, u3) in
        (ap is_unused e1, (ap is_unused e2, u4))
    used_expr (matched d1) u = let u0 = used_matched d1 u in u0
    used_expr (infix_expr d1) u = let u0 = used_infix d1 u in u0

    used_matched : {ts us : List Token} {x0 : Tree} → IsMatched text ts us x0 → Used us → Used ts
    used_matched (match_of m o d1 e2 e3 d4) u = let u0 = used_cases d4 u in
        let u1 = used_infix d1 (ap is_unused e2, (ap is_unused e3, u0)) in u1

    used_cases : {ts us : List Token} {x0 : CaseTrees} → IsCases text ts us x0 → Used us → Used ts
    used_cases (last_case c d1 e2) u = let u0 = used_case d1 (ap is_unused e2, u) in u0
    used_cases (one_more_case d1 d2) u = let u0 = used_cases d2 u in let u1 = used_case d1 u0 in u1

    used_case : {ts us : List Token} {x0 : PatternTree} {x1 : Option Tree} {x2 : Tree}
        → IsCase text ts us x0 x1 x2 → Used us → Used ts
    used_case (case_of c a e1 d2 d3 e4 d5) u = let u0 = used_rest d5 u in let u1 = used_guard d3 (
      ap is_unused e4,
      u0,
    ) in let u2 = used_pattern d2 u1 in (ap is_unused e1, u2)

    used_guard : {ts us : List Token} {x0 : Option Tree} → IsGuard text ts us x0 → Used us → Used ts
    used_guard no_guard u = u
    used_guard (guard i e1 d2) u = let u0 = used_infix d2 u in (ap is_unused e1, u0)

    used_rest : {ts us : List Token} {x0 : Tree} → IsRest text ts us x0 → Used us → Used ts
    used_rest (rest d1 d2 d3) u = let u0 = used_gap d3 u in let u1 = used_stats d2 u0 in let u2 = used_gap d1 u1 in u2

    used_stats : {ts us : List Token} {x0 : Tree} → IsStats text ts us x0 → Used us → Used ts
    used_stats (last_expr d1) u = let u0 = used_expr d1 u in u0
    used_stats (val_stat v n q e1 e2 d3 e4 d5 d6 d7) u = let u0 = used_stats d7 u in let u1 = used_semis d6 u0 in
        let u2 = used_expr d5 u1 in let u3 = used_ascription d3 (ap is_unused e4, u2) in
        (ap is_unused e1, (ap is_unused e2, u3))
    used_stats (assert_stat a o c e1 _ e3 d4 e5 d6 d7) u = let u0 = used_stats d7 u in let u1 = used_semis d6 u0 in
        let u2 = used_expr d4 (ap is_unused e5, u1) in (ap is_unused e1, (ap is_unused e3, u2))

    used_block : {ts us : List Token} {x0 : Tree} → IsBlock text ts us x0 → Used us → Used ts
    used_block (block o c e1 d2 e3) u = let u0 = used_rest d2 (ap is_unused e3, u) in (ap is_unused e1, u0)

    used_infix : {ts us : List Token} {x0 : ℕ} {x1 : Tree} → IsInfix text x0 ts us x1 → Used us → Used ts
    used_infix (looser d1) u = let u0 = used_infix d1 u in u0
    used_infix (operand d1) u = let u0 = used_prefix d1 u in u0
    used_infix (operator t o op d1 e2 _ d4) u = let u0 = used_infix d4 u in
        let u1 = used_infix d1 (ap is_unused e2, u0) in u1

    used_prefix : {ts us : List Token} {x0 : Tree} → IsPrefix text ts us x0 → Used us → Used ts
    used_prefix (no_prefix d1) u = let u0 = used_simple d1 u in u0
    used_prefix (prefixed t o op e1 _ _ d4) u = let u0 = used_simple d4 u in (ap is_unused e1, u0)
    used_prefix (negative m t e1 _ e3 d4) u = let u0 = used_fields d4 u in
        (ap is_unused e1, (negative_used t.kind _ e3, u0))

    used_simple : {ts us : List Token} {x0 : Tree} → IsSimple text ts us x0 → Used us → Used ts
    used_simple (simple d1 d2) u = let u0 = used_fields d2 u in let u1 = used_primary d1 u0 in u1

    used_primary : {ts us : List Token} {x0 : Tree} → IsPrimary text ts us x0 → Used us → Used ts
    used_primary (number t e1) u = (number_used t.kind _ e1, u)
    used_primary (true_word t e1) u = (ap is_unused e1, u)
    used_primary (false_word t e1) u = (ap is_unused e1, u)
    used_primary (bound i dot t e1 _ e3 e4 _) u = (ap is_unused e1, (ap is_unused e3, (ap is_unused e4, u)))
    used_primary (name_alone t e1 _) u = (ap is_unused e1, u)
    used_primary (at_types t o e1 _ e3 d4) u = let u0 = used_types d4 u in (ap is_unused e1, (ap is_unused e3, u0))
    used_primary (on_arguments t e1 _ d3) u = let u0 = used_arguments d3 u in (ap is_unused e1, u0)
    used_primary (at_types_on_arguments t o e1 _ e3 d4 d5) u = let u0 = used_arguments d5 u in
        let u1 = used_types d4 u0 in (ap is_unused e1, (ap is_unused e3, u1))
    used_primary (in_round o c e1 d2 e3) u = let u0 = used_expr d2 (ap is_unused e3, u) in (ap is_unused e1, u0)
    used_primary (in_block d1) u = let u0 = used_block d1 u in u0

    used_arguments : {ts us : List Token} {x0 : Trees} → IsArguments text ts us x0 → Used us → Used ts
    used_arguments (no_arguments o c e1 e2) u = (ap is_unused e1, (ap is_unused e2, u))
    used_arguments (arguments o e1 d2) u = let u0 = used_exprs d2 u in (ap is_unused e1, u0)

    used_exprs : {ts us : List Token} {x0 : Trees} → IsExprs text ts us x0 → Used us → Used ts
    used_exprs (last_of_exprs c d1 e2) u = let u0 = used_expr d1 (ap is_unused e2, u) in u0
    used_exprs (one_more_expr c d1 e2 d3) u = let u0 = used_exprs d3 u in let u1 = used_expr d1 (
      ap is_unused e2,
      u0,
    ) in u1

  used_hole : {ts us : List Token} {x0 : ℕ} {x1 : Tree} → IsHole text x0 ts us x1 → Used us → Used ts
  used_hole (looser_hole d1) u = let u0 = used_hole d1 u in u0
  used_hole (hole h e1 d2) u = let u0 = used_fields d2 u in (ap is_unused e1, u0)
  used_hole (prefixed_hole t h o op e1 _ e3 d4) u = let u0 = used_fields d4 u in
      (ap is_unused e1, (ap is_unused e3, u0))
  used_hole (hole_on_left t o op d1 e2 _ d4) u = let u0 = used_infix d4 u in
      let u1 = used_hole d1 (ap is_unused e2, u0) in u1
  used_hole (hole_on_right t o op d1 e2 _ d4) u = let u0 = used_hole d4 u in
      let u1 = used_infix d1 (ap is_unused e2, u0) in u1

  used_lambda : {ts us : List Token} {x0 : Word} {x1 : Option TypeTree} {x2 : Tree}
      → IsLambda text ts us x0 x1 x2 → Used us → Used ts
  used_lambda (of_name n a e1 e2 d3) u = let u0 = used_expr d3 u in (ap is_unused e1, (ap is_unused e2, u0))
  used_lambda (of_name_in_round o n c a e1 e2 d3 e4 e5 d6) u = let u0 = used_expr d6 u in
      let u1 = used_ascription d3 (ap is_unused e4, (ap is_unused e5, u0)) in (ap is_unused e1, (ap is_unused e2, u1))
  used_lambda (of_typed_name n c a e1 e2 d3 e4 d5) u = let u0 = used_expr d5 u in
      let u1 = used_type d3 (ap is_unused e4, u0) in (ap is_unused e1, (ap is_unused e2, u1))
  used_lambda (of_hole d1) u = let u0 = used_hole d1 u in u0

  used_post : {ts us : List Token} {x0 : Word} {x1 : Option TypeTree} {x2 : Tree} → IsPost text ts us x0 x1 x2
      → Used us → Used ts
  used_post (post_in_round o c e1 d2 e3) u = let u0 = used_lambda d2 (ap is_unused e3, u) in (ap is_unused e1, u0)
  used_post (post_in_braces o c e1 d2 d3 d4 e5) u = let u0 = used_gap d4 (ap is_unused e5, u) in
      let u1 = used_lambda d3 u0 in let u2 = used_gap d2 u1 in (ap is_unused e1, u2)

  used_measure : {ts us : List Token} {x0 : List Tree} → IsMeasure text ts us x0 → Used us → Used ts
  used_measure (last_component c d1 e2) u = let u0 = used_expr d1 (ap is_unused e2, u) in u0
  used_measure (one_more_component c d1 e2 d3) u = let u0 = used_measure d3 u in
      let u1 = used_expr d1 (ap is_unused e2, u0) in u1

  used_contract : {ts us : List Token} {x0 : Contract} → IsContract text ts us x0 → Used us → Used ts
  used_contract (requirement w o c e1 _ e3 d4 e5) u = let u0 = used_expr d4 (ap is_unused e5, u) in
      (ap is_unused e1, (ap is_unused e3, u0))
  used_contract (measure w o e1 _ e3 d4) u = let u0 = used_measure d4 u in (ap is_unused e1, (ap is_unused e3, u0))
  used_contract (measure_of_tuple w o p c d e1 _ e3 e4 d5 e6 d7 e8) u = let u0 = used_measure d7 (
    ap is_unused e8,
    u,
  ) in let u1 = used_expr d5 (ap is_unused e6, u0) in (ap is_unused e1, (ap is_unused e3, (ap is_unused e4, u1)))

  used_contracts : {ts us : List Token} {x0 : List Contract} → IsContracts text ts us x0 → Used us → Used ts
  used_contracts no_contract u = u
  used_contracts (one_more_contract d1 d2 d3) u = let u0 = used_contracts d3 u in let u1 = used_semis d2 u0 in
      let u2 = used_contract d1 u1 in u2

  used_contract_block : {ts us : List Token} {x0 : List Tree} {x1 : List Tree} {x2 : Tree}
      → IsContractBlock text ts us x0 x1 x2 → Used us → Used ts
  used_contract_block (contract_block o c e1 d2 d3 _ d5 d6 e7) u = let u0 = used_gap d6 (ap is_unused e7, u) in
      let u1 = used_stats d5 u0 in let u2 = used_contracts d3 u1 in let u3 = used_gap d2 u2 in (ap is_unused e1, u3)

  used_head : {ts us : List Token} {x0 : List Tree} {x1 : List Tree} {x2 : Tree} → IsHead text ts us x0 x1 x2
      → Used us → Used ts
  used_head (head_infix d1) u = let u0 = used_infix d1 u in u0
  used_head (head_matched d1) u = let u0 = used_matched d1 u in u0
  used_head (head_block d1) u = let u0 = used_contract_block d1 u in u0

  used_closed : {ts us : List Token} {x0 : List Tree} {x1 : List Tree} {x2 : Tree} → IsClosed text ts us x0 x1 x2
      → Used us → Used ts
  used_closed (closed_simple d1) u = let u0 = used_simple d1 u in u0
  used_closed (closed_matched d1) u = let u0 = used_matched d1 u in u0
  used_closed (closed_block d1) u = let u0 = used_contract_block d1 u in u0

  used_body : {ts us : List Token} {x0 : List Tree} {x1 : List Tree} {x2 : Tree} {x3 : Option PostTree}
      → IsBody text ts us x0 x1 x2 x3 → Used us → Used ts
  used_body (ensuring w d1 e2 _ d4) u = let u0 = used_post d4 u in let u1 = used_head d1 (ap is_unused e2, u0) in u1
  used_body (holds w d1 e2 _) u = let u0 = used_head d1 (ap is_unused e2, u) in u0
  used_body (dot_ensuring dot w d1 e2 e3 _ d5) u = let u0 = used_post d5 u in
      let u1 = used_closed d1 (ap is_unused e2, (ap is_unused e3, u0)) in u1
  used_body (dot_holds dot w d1 e2 e3 _) u = let u0 = used_closed d1 (ap is_unused e2, (ap is_unused e3, u)) in u0
  used_body (expr_alone d1) u = let u0 = used_expr d1 u in u0
  used_body (block_alone d1) u = let u0 = used_contract_block d1 u in u0

  used_annotations : {ts us : List Token} → IsAnnotations text ts us → Used us → Used ts
  used_annotations no_annotation u = u
  used_annotations (one_annotation a n e1 e2 _ d4 d5) u = let u0 = used_annotations d5 u in
      let u1 = used_break d4 u0 in (ap is_unused e1, (ap is_unused e2, u1))

  used_names : {ts us : List Token} {x0 : List Word} → IsNames text ts us x0 → Used us → Used ts
  used_names (last_name n c e1 e2) u = (ap is_unused e1, (ap is_unused e2, u))
  used_names (one_more_name n c e1 e2 d3) u = let u0 = used_names d3 u in (ap is_unused e1, (ap is_unused e2, u0))

  used_type_params : {ts us : List Token} {x0 : List Word} → IsTypeParams text ts us x0 → Used us → Used ts
  used_type_params no_type_params u = u
  used_type_params (type_params o e1 d2) u = let u0 = used_names d2 u in (ap is_unused e1, u0)

  used_params : {ts us : List Token} {x0 : List ParamTree} → IsParams text ts us x0 → Used us → Used ts
  used_params (last_param n c e e1 e2 d3 e4) u = let u0 = used_type d3 (ap is_unused e4, u) in
      (ap is_unused e1, (ap is_unused e2, u0))
  used_params (one_more_param n c e e1 e2 d3 e4 d5) u = let u0 = used_params d5 u in
      let u1 = used_type d3 (ap is_unused e4, u0) in (ap is_unused e1, (ap is_unused e2, u1))

  used_param_list : {ts us : List Token} {x0 : Bool} {x1 : List ParamTree} → IsParamList text ts us x0 x1
      → Used us → Used ts
  used_param_list no_list u = u
  used_param_list (empty_list o c e1 e2) u = (ap is_unused e1, (ap is_unused e2, u))
  used_param_list (param_list o e1 d2) u = let u0 = used_params d2 u in (ap is_unused e1, u0)

  used_def : {ts us : List Token} {x0 : DeclTree} → IsDef text ts us x0 → Used us → Used ts
  used_def (def_of d n c q d1 e2 e3 d4 d5 e6 d7 e8 d9) u = let u0 = used_body d9 u in
      let u1 = used_type d7 (ap is_unused e8, u0) in let u2 = used_param_list d5 (ap is_unused e6, u1) in
      let u3 = used_type_params d4 u2 in let u4 = used_annotations d1 (ap is_unused e2, (ap is_unused e3, u3)) in u4

  used_modified : {ts us : List Token} {x0 : Modifiers} {x1 : Modifiers} → IsModified ts us x0 x1 → Used us → Used ts
  used_modified no_modifier u = u
  used_modified (one_modifier t e1 d2) u = let u0 = used_modified d2 u in (modifier_used _ _ t.kind e1, u0)

  used_parent : {ts us : List Token} {x0 : Option TypeTree} → IsParent text ts us x0 → Used us → Used ts
  used_parent no_parent u = u
  used_parent (parent x e1 d2) u = let u0 = used_type d2 u in (ap is_unused e1, u0)

  used_class : {ts us : List Token} {x0 : DeclTree} → IsClass text ts us x0 → Used us → Used ts
  used_class (class_of k n d1 d2 e3 e4 d5 d6 d7) u = let u0 = used_parent d7 u in let u1 = used_param_list d6 u0 in
      let u2 = used_type_params d5 u1 in let u3 = used_modified d2 (trait_used k.kind _ e3, (ap is_unused e4, u2))
      in let u4 = used_annotations d1 u3 in u4
  used_class (case_object c k n x d1 e2 e3 e4 e5 d6) u = let u0 = used_type d6 u in
      let u1 = used_annotations d1 (ap is_unused e2, (ap is_unused e3, (ap is_unused e4, (ap is_unused e5, u0))))
      in u1

  used_path : {ts us : List Token} {x0 : ℕ} → IsPath text ts us x0 → Used us → Used ts
  used_path (last_of_path n e1) u = (ap is_unused e1, u)
  used_path (more_of_path n dot e1 e2 d3) u = let u0 = used_path d3 u in (ap is_unused e1, (ap is_unused e2, u0))

  used_choice : {ts us : List Token} → IsChoice ts us → Used us → Used ts
  used_choice (last_chosen n c e1 e2) u = (ap is_unused e1, (ap is_unused e2, u))
  used_choice (one_more_chosen n c e1 e2 d3) u = let u0 = used_choice d3 u in (ap is_unused e1, (ap is_unused e2, u0))

  used_import_text : {ts us : List Token} {x0 : Token} {x1 : Bool} → IsImportText text ts us x0 x1 → Used us → Used ts
  used_import_text (import_path i n e1 d2 _) u = let u0 = used_path d2 u in (ap is_unused e1, u0)
  used_import_text (import_all i n dot h e1 d2 e3 e4) u = let u0 = used_path d2 (
    ap is_unused e3,
    (
      ap is_unused e4,
      u,
    ),
  ) in (ap is_unused e1, u0)
  used_import_text (import_some i n dot o e1 d2 e3 e4 d5) u = let u0 = used_choice d5 u in
      let u1 = used_path d2 (ap is_unused e3, (ap is_unused e4, u0)) in (ap is_unused e1, u1)

  used_import : {ts us : List Token} {x0 : List Piece} → IsImport text ts us x0 → Used us → Used ts
  used_import (library n d1 _) u = let u0 = used_import_text d1 u in u0
  used_import (of_object n d1 _) u = let u0 = used_import_text d1 u in u0

  used_member : {ts us : List Token} {x0 : List Piece} → IsMember text ts us x0 → Used us → Used ts
  used_member (member_import d1) u = let u0 = used_import d1 u in u0
  used_member (member_class d1) u = let u0 = used_class d1 u in u0
  used_member (member_def d1) u = let u0 = used_def d1 u in u0

  used_more_members : {ts us : List Token} {x0 : List Piece} → IsMoreMembers text ts us x0 → Used us → Used ts
  used_more_members no_more_members u = u
  used_more_members (one_more_member d1 d2 d3) u = let u0 = used_more_members d3 u in let u1 = used_member d2 u0 in
      let u2 = used_semis d1 u1 in u2

  used_members : {ts us : List Token} {x0 : List Piece} → IsMembers text ts us x0 → Used us → Used ts
  used_members no_members u = u
  used_members (members d1 d2) u = let u0 = used_more_members d2 u in let u1 = used_member d1 u0 in u1

  used_object : {ts us : List Token} {x0 : List Piece} → IsObject text ts us x0 → Used us → Used ts
  used_object (object_of b n o c e1 e2 d3 e4 d5 d6 d7 e8) u = let u0 = used_gap d7 (ap is_unused e8, u) in
      let u1 = used_members d6 u0 in let u2 = used_gap d5 u1 in let u3 = used_break d3 (ap is_unused e4, u2) in
      (ap is_unused e1, (ap is_unused e2, u3))

  used_item : {ts us : List Token} {x0 : List Piece} → IsItem text ts us x0 → Used us → Used ts
  used_item (item_import d1) u = let u0 = used_import d1 u in u0
  used_item (item_object d1) u = let u0 = used_object d1 u in u0
  used_item (item_class d1) u = let u0 = used_class d1 u in u0

  used_more_items : {ts us : List Token} {x0 : List Piece} → IsMoreItems text ts us x0 → Used us → Used ts
  used_more_items no_more_items u = u
  used_more_items (one_more_item d1 d2 d3) u = let u0 = used_more_items d3 u in let u1 = used_item d2 u0 in
      let u2 = used_semis d1 u1 in u2

  used_items : {ts us : List Token} {x0 : List Piece} → IsItems text ts us x0 → Used us → Used ts
  used_items no_items u = u
  used_items (items d1 d2) u = let u0 = used_more_items d2 u in let u1 = used_item d1 u0 in u1

  used_packages : {ts us : List Token} → IsPackages text ts us → Used us → Used ts
  used_packages no_package u = u
  used_packages (one_package p e1 d2 d3 d4) u = let u0 = used_packages d4 u in let u1 = used_semis d3 u0 in
      let u2 = used_path d2 u1 in (ap is_unused e1, u2)

  used_unit : {ts : List Token} {u : UnitTree} → SpellsUnit text ts u → Used ts
  used_unit (unit e g packages r h is) =
      used_gap g (used_packages packages (used_items r (used_gap h (ap is_unused is, tt))))

none_unused : (ts : List Token) → Used ts → first_unused ts ≡ None
none_unused [] u = refl
none_unused (t ∷ ts) u = ap (λ b. cond b (Some t) (first_unused ts)) u.0 ∙ none_unused ts u.1

pub spelled_is_used : (text : Word) (ts : List Token) (u : UnitTree) → SpellsUnit text ts u → first_unused ts ≡ None
spelled_is_used text ts u spelled = none_unused ts (used_unit text spelled)

-- tokens with an unused reserved word spell no unit
pub unused_spells_none : (text : Word) (ts : List Token) (t : Token) → first_unused ts ≡ Some t → SpellsNone text ts
unused_spells_none text ts t is u spelled = let e = sym is ∙ spelled_is_used text ts u spelled in cc

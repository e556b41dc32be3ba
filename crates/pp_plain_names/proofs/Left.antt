-- What holds of all tokens holds of those that are left behind something that is spelled.
use Rattle.pp_grammar.specs.Bodies.{Contract, IsBody, IsClosed, IsContract, IsContractBlock, IsContracts, IsHead}
use Rattle.pp_grammar.specs.Bodies.{IsHole, IsLambda, IsMeasure, IsPost, block_alone, closed_block, closed_matched}
use Rattle.pp_grammar.specs.Bodies.{closed_simple, contract_block, dot_ensuring, dot_holds, ensuring, expr_alone}
use Rattle.pp_grammar.specs.Bodies.{head_block, head_infix, head_matched, holds, hole, hole_on_left, hole_on_right}
use Rattle.pp_grammar.specs.Bodies.{last_component, looser_hole, measure, measure_of_tuple, no_contract, of_hole}
use Rattle.pp_grammar.specs.Bodies.{of_name, of_name_in_round, of_typed_name, one_more_component, one_more_contract}
use Rattle.pp_grammar.specs.Bodies.{post_in_braces, post_in_round, prefixed_hole, requirement}
use Rattle.pp_grammar.specs.Exprs.{IsArguments, IsBlock, IsCase, IsCases, IsExpr, IsExprs, IsFields, IsGuard, IsInfix}
use Rattle.pp_grammar.specs.Exprs.{IsMatched, IsPrefix, IsPrimary, IsRest, IsSemicolon, IsSimple, IsStats, arguments}
use Rattle.pp_grammar.specs.Exprs.{assert_stat, at_types, at_types_on_arguments, block, bound, case_of, false_word}
use Rattle.pp_grammar.specs.Exprs.{guard, if_else, in_block, in_round, infix_expr, last_case, last_expr}
use Rattle.pp_grammar.specs.Exprs.{last_of_exprs, looser, match_of, matched, name_alone, negative, no_arguments}
use Rattle.pp_grammar.specs.Exprs.{no_field, no_guard, no_prefix, no_semicolon, number, on_arguments, one_field}
use Rattle.pp_grammar.specs.Exprs.{one_more_case, one_more_expr, operand, operator, prefixed, rest, semicolon, simple}
use Rattle.pp_grammar.specs.Exprs.{true_word, val_stat}
use Rattle.pp_grammar.specs.Patterns.{IsPattern, IsPatterns, IsPlain, anything, binding, constructor_alone}
use Rattle.pp_grammar.specs.Patterns.{constructor_of, constructor_of_none, false_pattern, last_pattern, named_pattern}
use Rattle.pp_grammar.specs.Patterns.{negated_pattern, number_pattern, one_more_pattern, pattern_in_round}
use Rattle.pp_grammar.specs.Patterns.{signed_pattern, true_pattern, unnamed}
use Rattle.pp_grammar.specs.Types.{IsAscription, IsBreak, IsBreaks, IsGap, IsSemis, IsType, IsTypes, ascribed}
use Rattle.pp_grammar.specs.Types.{last_type, more_newlines, no_newline, no_newlines, no_semi, no_type, one_more_type}
use Rattle.pp_grammar.specs.Types.{one_newline, one_semi, semis, type_name, type_of}
use Rattle.pp_grammar.specs.Units.{IsAnnotations, IsChoice, IsClass, IsDef, IsImport, IsImportText, IsItem, IsItems}
use Rattle.pp_grammar.specs.Units.{IsMember, IsMembers, IsModified, IsMoreItems, IsMoreMembers, IsNames, IsObject}
use Rattle.pp_grammar.specs.Units.{IsPackages, IsParamList, IsParams, IsParent, IsPath, IsTypeParams, Modifiers}
use Rattle.pp_grammar.specs.Units.{Piece, case_object, class_of, def_of, empty_list, import_all}
use Rattle.pp_grammar.specs.Units.{import_path, import_some, item_class, item_import, item_object, items, last_chosen}
use Rattle.pp_grammar.specs.Units.{last_name, last_of_path, last_param, library, member_class, member_def}
use Rattle.pp_grammar.specs.Units.{member_import, members, more_of_path, no_annotation, no_items, no_list}
use Rattle.pp_grammar.specs.Units.{no_members, no_modifier, no_more_items, no_more_members, no_package, no_parent}
use Rattle.pp_grammar.specs.Units.{no_type_params, object_of, of_object, one_annotation, one_modifier}
use Rattle.pp_grammar.specs.Units.{one_more_chosen, one_more_item, one_more_member, one_more_name, one_more_param}
use Rattle.pp_grammar.specs.Units.{one_package, param_list, parent, type_params}
use Rattle.pp_tokens.specs.declared.token.Token.{Token}
use Rattle.pp_tree.specs.Plain.{CaseTrees, DeclTree, ParamTree, PatternTree, PatternTrees, PostTree, Tree, Trees}
use Rattle.pp_tree.specs.Plain.{TypeTree, TypeTrees, Word}
use Rattle.std.proofs.Common.{Bool, List, Option, [], ℕ, ◌∷◌}

module _ (text : Word) (Holds : Token → Type 0) where
  abbrev pub AllOf : List Token → Type 0
  AllOf [] = Unit {0}
  AllOf (t ∷ ts) = Holds t × AllOf ts

  pub left_gap : {ts us : List Token} → IsGap ts us → AllOf ts → AllOf us
  left_gap no_semi ok = ok
  left_gap (one_semi t e1 d2) ok = left_gap d2 ok.1

  pub left_semis : {ts us : List Token} → IsSemis ts us → AllOf ts → AllOf us
  left_semis (semis t e1 d2) ok = left_gap d2 ok.1

  pub left_break : {ts us : List Token} → IsBreak ts us → AllOf ts → AllOf us
  left_break no_newline ok = ok
  left_break (one_newline t e1) ok = ok.1

  pub left_breaks : {ts us : List Token} → IsBreaks ts us → AllOf ts → AllOf us
  left_breaks no_newlines ok = ok
  left_breaks (more_newlines t e1 d2) ok = left_breaks d2 ok.1

  mutual
    pub left_type : {ts us : List Token} {x0 : TypeTree} → IsType text ts us x0 → AllOf ts → AllOf us
    left_type (type_name t e1) ok = ok.1
    left_type (type_of t o e1 e2 d3) ok = left_types d3 ok.1.1

    pub left_types : {ts us : List Token} {x0 : TypeTrees} → IsTypes text ts us x0 → AllOf ts → AllOf us
    left_types (last_type c d1 e2) ok = (left_type d1 ok).1
    left_types (one_more_type c d1 e2 d3) ok = left_types d3 (left_type d1 ok).1

  pub left_ascription : {ts us : List Token} {x0 : Option TypeTree} → IsAscription text ts us x0 → AllOf ts → AllOf us
  left_ascription no_type ok = ok
  left_ascription (ascribed c e1 d2) ok = left_type d2 ok.1

  mutual
    pub left_pattern : {ts us : List Token} {x0 : PatternTree} → IsPattern text ts us x0 → AllOf ts → AllOf us
    left_pattern (unnamed d1) ok = left_plain d1 ok
    left_pattern (named_pattern n a e1 e2 d3 _) ok = left_plain d3 ok.1.1

    pub left_plain : {ts us : List Token} {x0 : PatternTree} → IsPlain text ts us x0 → AllOf ts → AllOf us
    left_plain (anything t e1) ok = ok.1
    left_plain (binding t e1 _) ok = ok.1
    left_plain (constructor_alone t e1 _) ok = ok.1
    left_plain (number_pattern t e1) ok = ok.1
    left_plain (signed_pattern m t e1 _ e3) ok = ok.1.1
    left_plain (negated_pattern m t e1 _ e3) ok = ok.1.1
    left_plain (true_pattern t e1) ok = ok.1
    left_plain (false_pattern t e1) ok = ok.1
    left_plain (pattern_in_round o c e1 d2 e3) ok = (left_pattern d2 ok.1).1
    left_plain (constructor_of_none t o c e1 e2 e3) ok = ok.1.1.1
    left_plain (constructor_of t o e1 e2 d3) ok = left_patterns d3 ok.1.1

    pub left_patterns : {ts us : List Token} {x0 : PatternTrees} → IsPatterns text ts us x0 → AllOf ts → AllOf us
    left_patterns (last_pattern c d1 e2) ok = (left_pattern d1 ok).1
    left_patterns (one_more_pattern c d1 e2 d3) ok = left_patterns d3 (left_pattern d1 ok).1

  pub left_fields : {ts us : List Token} {x0 : Tree} {x1 : Tree} → IsFields text ts us x0 x1 → AllOf ts → AllOf us
  left_fields no_field ok = ok
  left_fields (one_field dot t e1 e2 _ d4) ok = left_fields d4 ok.1.1

  pub left_semicolon : {ts us : List Token} → IsSemicolon ts us → AllOf ts → AllOf us
  left_semicolon no_semicolon ok = ok
  left_semicolon (semicolon t e1) ok = ok.1

  mutual
    pub left_expr : {ts us : List Token} {x0 : Tree} → IsExpr text ts us x0 → AllOf ts → AllOf us
    left_expr (if_else i o c e e1 e2 d3 e4 d5 d6 d7 e8 d9) ok =
        left_expr d9 (left_semicolon d7 (left_expr d6 (left_breaks d5 (left_expr d3 ok.1.1).1))).1
    left_expr (matched d1) ok = left_matched d1 ok
    left_expr (infix_expr d1) ok = left_infix d1 ok

    pub left_matched : {ts us : List Token} {x0 : Tree} → IsMatched text ts us x0 → AllOf ts → AllOf us
    left_matched (match_of m o d1 e2 e3 d4) ok = left_cases d4 (left_infix d1 ok).1.1

    pub left_cases : {ts us : List Token} {x0 : CaseTrees} → IsCases text ts us x0 → AllOf ts → AllOf us
    left_cases (last_case c d1 e2) ok = (left_case d1 ok).1
    left_cases (one_more_case d1 d2) ok = left_cases d2 (left_case d1 ok)

    pub left_case : {ts us : List Token} {x0 : PatternTree} {x1 : Option Tree} {x2 : Tree}
        → IsCase text ts us x0 x1 x2 → AllOf ts → AllOf us
    left_case (case_of c a e1 d2 d3 e4 d5) ok = left_rest d5 (left_guard d3 (left_pattern d2 ok.1)).1

    pub left_guard : {ts us : List Token} {x0 : Option Tree} → IsGuard text ts us x0 → AllOf ts → AllOf us
    left_guard no_guard ok = ok
    left_guard (guard i e1 d2) ok = left_infix d2 ok.1

    pub left_rest : {ts us : List Token} {x0 : Tree} → IsRest text ts us x0 → AllOf ts → AllOf us
    left_rest (rest d1 d2 d3) ok = left_gap d3 (left_stats d2 (left_gap d1 ok))

    pub left_stats : {ts us : List Token} {x0 : Tree} → IsStats text ts us x0 → AllOf ts → AllOf us
    left_stats (last_expr d1) ok = left_expr d1 ok
    left_stats (val_stat v n q e1 e2 d3 e4 d5 d6 d7) ok =
        left_stats d7 (left_semis d6 (left_expr d5 (left_ascription d3 ok.1.1).1))
    left_stats (assert_stat a o c e1 _ e3 d4 e5 d6 d7) ok = left_stats d7 (left_semis d6 (left_expr d4 ok.1.1).1)

    pub left_block : {ts us : List Token} {x0 : Tree} → IsBlock text ts us x0 → AllOf ts → AllOf us
    left_block (block o c e1 d2 e3) ok = (left_rest d2 ok.1).1

    pub left_infix : {ts us : List Token} {x0 : ℕ} {x1 : Tree} → IsInfix text x0 ts us x1 → AllOf ts → AllOf us
    left_infix (looser d1) ok = left_infix d1 ok
    left_infix (operand d1) ok = left_prefix d1 ok
    left_infix (operator t o op d1 e2 _ d4) ok = left_infix d4 (left_infix d1 ok).1

    pub left_prefix : {ts us : List Token} {x0 : Tree} → IsPrefix text ts us x0 → AllOf ts → AllOf us
    left_prefix (no_prefix d1) ok = left_simple d1 ok
    left_prefix (prefixed t o op e1 _ _ d4) ok = left_simple d4 ok.1
    left_prefix (negative m t e1 _ e3 d4) ok = left_fields d4 ok.1.1

    pub left_simple : {ts us : List Token} {x0 : Tree} → IsSimple text ts us x0 → AllOf ts → AllOf us
    left_simple (simple d1 d2) ok = left_fields d2 (left_primary d1 ok)

    pub left_primary : {ts us : List Token} {x0 : Tree} → IsPrimary text ts us x0 → AllOf ts → AllOf us
    left_primary (number t e1) ok = ok.1
    left_primary (true_word t e1) ok = ok.1
    left_primary (false_word t e1) ok = ok.1
    left_primary (bound i dot t e1 _ e3 e4 _) ok = ok.1.1.1
    left_primary (name_alone t e1 _) ok = ok.1
    left_primary (at_types t o e1 _ e3 d4) ok = left_types d4 ok.1.1
    left_primary (on_arguments t e1 _ d3) ok = left_arguments d3 ok.1
    left_primary (at_types_on_arguments t o e1 _ e3 d4 d5) ok = left_arguments d5 (left_types d4 ok.1.1)
    left_primary (in_round o c e1 d2 e3) ok = (left_expr d2 ok.1).1
    left_primary (in_block d1) ok = left_block d1 ok

    pub left_arguments : {ts us : List Token} {x0 : Trees} → IsArguments text ts us x0 → AllOf ts → AllOf us
    left_arguments (no_arguments o c e1 e2) ok = ok.1.1
    left_arguments (arguments o e1 d2) ok = left_exprs d2 ok.1

    pub left_exprs : {ts us : List Token} {x0 : Trees} → IsExprs text ts us x0 → AllOf ts → AllOf us
    left_exprs (last_of_exprs c d1 e2) ok = (left_expr d1 ok).1
    left_exprs (one_more_expr c d1 e2 d3) ok = left_exprs d3 (left_expr d1 ok).1

  pub left_hole : {ts us : List Token} {x0 : ℕ} {x1 : Tree} → IsHole text x0 ts us x1 → AllOf ts → AllOf us
  left_hole (looser_hole d1) ok = left_hole d1 ok
  left_hole (hole h e1 d2) ok = left_fields d2 ok.1
  left_hole (prefixed_hole t h o op e1 _ e3 d4) ok = left_fields d4 ok.1.1
  left_hole (hole_on_left t o op d1 e2 _ d4) ok = left_infix d4 (left_hole d1 ok).1
  left_hole (hole_on_right t o op d1 e2 _ d4) ok = left_hole d4 (left_infix d1 ok).1

  pub left_lambda : {ts us : List Token} {x0 : Word} {x1 : Option TypeTree} {x2 : Tree} → IsLambda text ts us x0 x1 x2
      → AllOf ts → AllOf us
  left_lambda (of_name n a e1 e2 d3) ok = left_expr d3 ok.1.1
  left_lambda (of_name_in_round o n c a e1 e2 d3 e4 e5 d6) ok = left_expr d6 (left_ascription d3 ok.1.1).1.1
  left_lambda (of_typed_name n c a e1 e2 d3 e4 d5) ok = left_expr d5 (left_type d3 ok.1.1).1
  left_lambda (of_hole d1) ok = left_hole d1 ok

  pub left_post : {ts us : List Token} {x0 : Word} {x1 : Option TypeTree} {x2 : Tree} → IsPost text ts us x0 x1 x2
      → AllOf ts → AllOf us
  left_post (post_in_round o c e1 d2 e3) ok = (left_lambda d2 ok.1).1
  left_post (post_in_braces o c e1 d2 d3 d4 e5) ok = (left_gap d4 (left_lambda d3 (left_gap d2 ok.1))).1

  pub left_measure : {ts us : List Token} {x0 : List Tree} → IsMeasure text ts us x0 → AllOf ts → AllOf us
  left_measure (last_component c d1 e2) ok = (left_expr d1 ok).1
  left_measure (one_more_component c d1 e2 d3) ok = left_measure d3 (left_expr d1 ok).1

  pub left_contract : {ts us : List Token} {x0 : Contract} → IsContract text ts us x0 → AllOf ts → AllOf us
  left_contract (requirement w o c e1 _ e3 d4 e5) ok = (left_expr d4 ok.1.1).1
  left_contract (measure w o e1 _ e3 d4) ok = left_measure d4 ok.1.1
  left_contract (measure_of_tuple w o p c d e1 _ e3 e4 d5 e6 d7 e8) ok = (left_measure d7 (left_expr d5 ok.1.1.1).1).1

  pub left_contracts : {ts us : List Token} {x0 : List Contract} → IsContracts text ts us x0 → AllOf ts → AllOf us
  left_contracts no_contract ok = ok
  left_contracts (one_more_contract d1 d2 d3) ok = left_contracts d3 (left_semis d2 (left_contract d1 ok))

  pub left_contract_block : {ts us : List Token} {x0 : List Tree} {x1 : List Tree} {x2 : Tree}
      → IsContractBlock text ts us x0 x1 x2 → AllOf ts → AllOf us
  left_contract_block (contract_block o c e1 d2 d3 _ d5 d6 e7) ok =
      (left_gap d6 (left_stats d5 (left_contracts d3 (left_gap d2 ok.1)))).1

  pub left_head : {ts us : List Token} {x0 : List Tree} {x1 : List Tree} {x2 : Tree} → IsHead text ts us x0 x1 x2
      → AllOf ts → AllOf us
  left_head (head_infix d1) ok = left_infix d1 ok
  left_head (head_matched d1) ok = left_matched d1 ok
  left_head (head_block d1) ok = left_contract_block d1 ok

  pub left_closed : {ts us : List Token} {x0 : List Tree} {x1 : List Tree} {x2 : Tree} → IsClosed text ts us x0 x1 x2
      → AllOf ts → AllOf us
  left_closed (closed_simple d1) ok = left_simple d1 ok
  left_closed (closed_matched d1) ok = left_matched d1 ok
  left_closed (closed_block d1) ok = left_contract_block d1 ok

  pub left_body : {ts us : List Token} {x0 : List Tree} {x1 : List Tree} {x2 : Tree} {x3 : Option PostTree}
      → IsBody text ts us x0 x1 x2 x3 → AllOf ts → AllOf us
  left_body (ensuring w d1 e2 _ d4) ok = left_post d4 (left_head d1 ok).1
  left_body (holds w d1 e2 _) ok = (left_head d1 ok).1
  left_body (dot_ensuring dot w d1 e2 e3 _ d5) ok = left_post d5 (left_closed d1 ok).1.1
  left_body (dot_holds dot w d1 e2 e3 _) ok = (left_closed d1 ok).1.1
  left_body (expr_alone d1) ok = left_expr d1 ok
  left_body (block_alone d1) ok = left_contract_block d1 ok

  pub left_annotations : {ts us : List Token} → IsAnnotations text ts us → AllOf ts → AllOf us
  left_annotations no_annotation ok = ok
  left_annotations (one_annotation a n e1 e2 _ d4 d5) ok = left_annotations d5 (left_break d4 ok.1.1)

  pub left_names : {ts us : List Token} {x0 : List Word} → IsNames text ts us x0 → AllOf ts → AllOf us
  left_names (last_name n c e1 e2) ok = ok.1.1
  left_names (one_more_name n c e1 e2 d3) ok = left_names d3 ok.1.1

  pub left_type_params : {ts us : List Token} {x0 : List Word} → IsTypeParams text ts us x0 → AllOf ts → AllOf us
  left_type_params no_type_params ok = ok
  left_type_params (type_params o e1 d2) ok = left_names d2 ok.1

  pub left_params : {ts us : List Token} {x0 : List ParamTree} → IsParams text ts us x0 → AllOf ts → AllOf us
  left_params (last_param n c e e1 e2 d3 e4) ok = (left_type d3 ok.1.1).1
  left_params (one_more_param n c e e1 e2 d3 e4 d5) ok = left_params d5 (left_type d3 ok.1.1).1

  pub left_param_list : {ts us : List Token} {x0 : Bool} {x1 : List ParamTree} → IsParamList text ts us x0 x1
      → AllOf ts → AllOf us
  left_param_list no_list ok = ok
  left_param_list (empty_list o c e1 e2) ok = ok.1.1
  left_param_list (param_list o e1 d2) ok = left_params d2 ok.1

  pub left_def : {ts us : List Token} {x0 : DeclTree} → IsDef text ts us x0 → AllOf ts → AllOf us
  left_def (def_of d n c q d1 e2 e3 d4 d5 e6 d7 e8 d9) ok =
      left_body d9 (left_type d7 (left_param_list d5 (left_type_params d4 (left_annotations d1 ok).1.1)).1).1

  pub left_modified : {ts us : List Token} {x0 : Modifiers} {x1 : Modifiers} → IsModified ts us x0 x1 → AllOf ts
      → AllOf us
  left_modified no_modifier ok = ok
  left_modified (one_modifier t e1 d2) ok = left_modified d2 ok.1

  pub left_parent : {ts us : List Token} {x0 : Option TypeTree} → IsParent text ts us x0 → AllOf ts → AllOf us
  left_parent no_parent ok = ok
  left_parent (parent x e1 d2) ok = left_type d2 ok.1

  pub left_class : {ts us : List Token} {x0 : DeclTree} → IsClass text ts us x0 → AllOf ts → AllOf us
  left_class (class_of k n d1 d2 e3 e4 d5 d6 d7) ok =
      left_parent d7 (left_param_list d6 (left_type_params d5 (left_modified d2 (left_annotations d1 ok)).1.1))
  left_class (case_object c k n x d1 e2 e3 e4 e5 d6) ok = left_type d6 (left_annotations d1 ok).1.1.1.1

  pub left_path : {ts us : List Token} {x0 : ℕ} → IsPath text ts us x0 → AllOf ts → AllOf us
  left_path (last_of_path n e1) ok = ok.1
  left_path (more_of_path n dot e1 e2 d3) ok = left_path d3 ok.1.1

  pub left_choice : {ts us : List Token} → IsChoice ts us → AllOf ts → AllOf us
  left_choice (last_chosen n c e1 e2) ok = ok.1.1
  left_choice (one_more_chosen n c e1 e2 d3) ok = left_choice d3 ok.1.1

  pub left_import_text : {ts us : List Token} {x0 : Token} {x1 : Bool} → IsImportText text ts us x0 x1 → AllOf ts
      → AllOf us
  left_import_text (import_path i n e1 d2 _) ok = left_path d2 ok.1
  left_import_text (import_all i n dot h e1 d2 e3 e4) ok = (left_path d2 ok.1).1.1
  left_import_text (import_some i n dot o e1 d2 e3 e4 d5) ok = left_choice d5 (left_path d2 ok.1).1.1

  pub left_import : {ts us : List Token} {x0 : List Piece} → IsImport text ts us x0 → AllOf ts → AllOf us
  left_import (library n d1 _) ok = left_import_text d1 ok
  left_import (of_object n d1 _) ok = left_import_text d1 ok

  pub left_member : {ts us : List Token} {x0 : List Piece} → IsMember text ts us x0 → AllOf ts → AllOf us
  left_member (member_import d1) ok = left_import d1 ok
  left_member (member_class d1) ok = left_class d1 ok
  left_member (member_def d1) ok = left_def d1 ok

  pub left_more_members : {ts us : List Token} {x0 : List Piece} → IsMoreMembers text ts us x0 → AllOf ts → AllOf us
  left_more_members no_more_members ok = ok
  left_more_members (one_more_member d1 d2 d3) ok = left_more_members d3 (left_member d2 (left_semis d1 ok))

  pub left_members : {ts us : List Token} {x0 : List Piece} → IsMembers text ts us x0 → AllOf ts → AllOf us
  left_members no_members ok = ok
  left_members (members d1 d2) ok = left_more_members d2 (left_member d1 ok)

  pub left_object : {ts us : List Token} {x0 : List Piece} → IsObject text ts us x0 → AllOf ts → AllOf us
  left_object (object_of b n o c e1 e2 d3 e4 d5 d6 d7 e8) ok =
      (left_gap d7 (left_members d6 (left_gap d5 (left_break d3 ok.1.1).1))).1

  pub left_item : {ts us : List Token} {x0 : List Piece} → IsItem text ts us x0 → AllOf ts → AllOf us
  left_item (item_import d1) ok = left_import d1 ok
  left_item (item_object d1) ok = left_object d1 ok
  left_item (item_class d1) ok = left_class d1 ok

  pub left_more_items : {ts us : List Token} {x0 : List Piece} → IsMoreItems text ts us x0 → AllOf ts → AllOf us
  left_more_items no_more_items ok = ok
  left_more_items (one_more_item d1 d2 d3) ok = left_more_items d3 (left_item d2 (left_semis d1 ok))

  pub left_items : {ts us : List Token} {x0 : List Piece} → IsItems text ts us x0 → AllOf ts → AllOf us
  left_items no_items ok = ok
  left_items (items d1 d2) ok = left_more_items d2 (left_item d1 ok)

  pub left_packages : {ts us : List Token} → IsPackages text ts us → AllOf ts → AllOf us
  left_packages no_package ok = ok
  left_packages (one_package p e1 d2 d3 d4) ok = left_packages d4 (left_semis d3 (left_path d2 ok.1))

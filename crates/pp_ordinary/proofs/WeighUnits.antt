-- The declarations of a unit weigh no more than the tokens that spell them.
use Rattle.std.proofs.Common.{arith, ℕ, ◌+◌, ◌≤◌, List, ◌∷◌, [], ◌≡◌, ◌++◌, Option, Some, None, Bool, true, false, refl}
use Rattle.pp_grammar.specs.Units.{IsAnnotations, IsChoice, IsClass, IsDef, IsImport, IsImportText, IsItem, IsItems}
use Rattle.pp_grammar.specs.Units.{IsMember, IsMembers, IsModified, IsMoreItems, IsMoreMembers, IsNames, IsObject}
use Rattle.pp_grammar.specs.Units.{IsPackages, IsParamList, IsParams, IsParent, IsPath, IsTypeParams, Modifiers}
use Rattle.pp_grammar.specs.Units.{Piece, SpellsUnit, case_object, class_decl, class_of, decl_piece, def_of}
use Rattle.pp_grammar.specs.Units.{empty_list, import_all, import_path, import_piece, import_some, item_class}
use Rattle.pp_grammar.specs.Units.{item_import, item_object, items, last_chosen, last_name, last_of_path, last_param}
use Rattle.pp_grammar.specs.Units.{library, member_class, member_def, member_import, members, more_of_path}
use Rattle.pp_grammar.specs.Units.{no_annotation, no_items, no_list, no_members, no_modifier, no_more_items}
use Rattle.pp_grammar.specs.Units.{no_more_members, no_package, no_parent, no_type_params, object_of, object_piece}
use Rattle.pp_grammar.specs.Units.{of_object, one_annotation, one_modifier, one_more_chosen, one_more_item}
use Rattle.pp_grammar.specs.Units.{one_more_member, one_more_name, one_more_param, one_package, param_list, parent}
use Rattle.pp_grammar.specs.Units.{root_or_other, type_params, unit}
use Rattle.pp_ordinary.proofs.WeighBodies.{le_body}
use Rattle.pp_ordinary.proofs.WeighTypes.{le_break, le_gap, le_semis, le_type}
use Rattle.pp_ordinary.proofs.Weights.{weigh_decl, weigh_decls, weigh_pieces, weight}
use Rattle.pp_tokens.specs.declared.token.Token.{Token}
use Rattle.pp_tree.specs.Plain.{ClassTree, DeclTree, ParamTree, TypeTree, UnitTree, Word}

module _ (text : Word) (mass : ℕ → ℕ) where
  both_weight : (ps qs : List Piece) → weigh_pieces mass (ps ++ qs) ≡ weigh_pieces mass ps + weigh_pieces mass qs
  both_weight [] qs = omega arith
  both_weight (import_piece i ∷ ps) qs = omega (arith, both_weight ps qs)
  both_weight (object_piece v ∷ ps) qs = omega (arith, both_weight ps qs)
  both_weight (decl_piece d ∷ ps) qs = omega (arith, both_weight ps qs)

  other_weight : (ps : List ParamTree) (extended : Option TypeTree) (c : ClassTree)
      → weigh_decl mass (root_or_other ps extended c) ≡ 0
  other_weight [] None c = refl
  other_weight [] (Some t) c = refl
  other_weight (p ∷ ps) extended c = refl

  decl_weight : (sealed case trait : Bool) (c : ClassTree) → weigh_decl mass (class_decl sealed case trait c) ≡ 0
  decl_weight sealed true false c = refl
  decl_weight true false trait c = other_weight c.fields c.parent c
  decl_weight true true true c = refl
  decl_weight false false trait c = refl
  decl_weight false true true c = refl

  class_weight : {ts us : List Token} {d : DeclTree} → IsClass text ts us d → weigh_decl mass d ≡ 0
  class_weight (class_of {m = m} {trait = trait} k n d1 d2 e3 e4 d5 d6 d7) = decl_weight m.sealed m.case trait _
  class_weight (case_object c k n x d1 e2 e3 e4 e5 d6) = refl

  pub le_annotations : {ts us : List Token} → IsAnnotations text ts us → weight mass us ≤ weight mass ts
  le_annotations no_annotation = omega arith
  le_annotations (one_annotation a n e1 e2 _ d4 d5) = omega (arith, le_break text mass d4, le_annotations d5)

  pub le_names : {ts us : List Token} {vs : List Word} → IsNames text ts us vs → weight mass us ≤ weight mass ts
  le_names (last_name n c e1 e2) = omega arith
  le_names (one_more_name n c e1 e2 d3) = omega (arith, le_names d3)

  pub le_type_params : {ts us : List Token} {vs : List Word} → IsTypeParams text ts us vs
      → weight mass us ≤ weight mass ts
  le_type_params no_type_params = omega arith
  le_type_params (type_params o e1 d2) = omega (arith, le_names d2)

  pub le_params : {ts us : List Token} {ps : List ParamTree} → IsParams text ts us ps
      → weight mass us ≤ weight mass ts
  le_params (last_param n c e e1 e2 d3 e4) = omega (arith, le_type text mass d3)
  le_params (one_more_param n c e e1 e2 d3 e4 d5) = omega (arith, le_type text mass d3, le_params d5)

  pub le_param_list : {ts us : List Token} {b : Bool} {ps : List ParamTree} → IsParamList text ts us b ps
      → weight mass us ≤ weight mass ts
  le_param_list no_list = omega arith
  le_param_list (empty_list o c e1 e2) = omega arith
  le_param_list (param_list o e1 d2) = omega (arith, le_params d2)

  pub le_def : {ts us : List Token} {d : DeclTree} → IsDef text ts us d
      → weigh_decl mass d + weight mass us ≤ weight mass ts
  le_def (def_of d n c q d1 e2 e3 d4 d5 e6 d7 e8 d9) =
      omega (arith, le_annotations d1, le_type_params d4, le_param_list d5, le_type text mass d7, le_body text mass d9)

  pub le_modified : {ts us : List Token} {m : Modifiers} {n : Modifiers} → IsModified ts us m n
      → weight mass us ≤ weight mass ts
  le_modified no_modifier = omega arith
  le_modified (one_modifier t e1 d2) = omega (arith, le_modified d2)

  pub le_parent : {ts us : List Token} {a : Option TypeTree} → IsParent text ts us a → weight mass us ≤ weight mass ts
  le_parent no_parent = omega arith
  le_parent (parent x e1 d2) = omega (arith, le_type text mass d2)

  pub le_class : {ts us : List Token} {d : DeclTree} → IsClass text ts us d → weight mass us ≤ weight mass ts
  le_class (class_of k n d1 d2 e3 e4 d5 d6 d7) =
      omega (arith, le_annotations d1, le_modified d2, le_type_params d5, le_param_list d6, le_parent d7)
  le_class (case_object c k n x d1 e2 e3 e4 e5 d6) = omega (arith, le_annotations d1, le_type text mass d6)

  pub le_path : {ts us : List Token} {l : ℕ} → IsPath text ts us l → weight mass us ≤ weight mass ts
  le_path (last_of_path n e1) = omega arith
  le_path (more_of_path n dot e1 e2 d3) = omega (arith, le_path d3)

  pub le_choice : {ts us : List Token} → IsChoice ts us → weight mass us ≤ weight mass ts
  le_choice (last_chosen n c e1 e2) = omega arith
  le_choice (one_more_chosen n c e1 e2 d3) = omega (arith, le_choice d3)

  pub le_import_text : {ts us : List Token} {n : Token} {b : Bool} → IsImportText text ts us n b
      → weight mass us ≤ weight mass ts
  le_import_text (import_path i n e1 d2 _) = omega (arith, le_path d2)
  le_import_text (import_all i n dot h e1 d2 e3 e4) = omega (arith, le_path d2)
  le_import_text (import_some i n dot o e1 d2 e3 e4 d5) = omega (arith, le_path d2, le_choice d5)

  pub le_import : {ts us : List Token} {ps : List Piece} → IsImport text ts us ps
      → weigh_pieces mass ps + weight mass us ≤ weight mass ts
  le_import (library n d1 _) = omega (arith, le_import_text d1)
  le_import (of_object n d1 _) = omega (arith, le_import_text d1)

  pub le_member : {ts us : List Token} {ps : List Piece} → IsMember text ts us ps
      → weigh_pieces mass ps + weight mass us ≤ weight mass ts
  le_member (member_import d1) = omega (arith, le_import d1)
  le_member (member_class d1) = omega (arith, le_class d1, class_weight d1)
  le_member (member_def d1) = omega (arith, le_def d1)

  pub le_more_members : {ts us : List Token} {ps : List Piece} → IsMoreMembers text ts us ps
      → weigh_pieces mass ps + weight mass us ≤ weight mass ts
  le_more_members no_more_members = omega arith
  le_more_members (one_more_member {ps = ps} {qs = qs} d1 d2 d3) =
      omega (arith, le_semis text mass d1, le_member d2, le_more_members d3, both_weight ps qs)

  pub le_members : {ts us : List Token} {ps : List Piece} → IsMembers text ts us ps
      → weigh_pieces mass ps + weight mass us ≤ weight mass ts
  le_members no_members = omega arith
  le_members (members {ps = ps} {qs = qs} d1 d2) =
      omega (arith, le_member d1, le_more_members d2, both_weight ps qs)

  pub le_object : {ts us : List Token} {ps : List Piece} → IsObject text ts us ps
      → weigh_pieces mass ps + weight mass us ≤ weight mass ts
  le_object (object_of b n o c e1 e2 d3 e4 d5 d6 d7 e8) =
      omega (arith, le_break text mass d3, le_gap text mass d5, le_members d6, le_gap text mass d7)

  pub le_item : {ts us : List Token} {ps : List Piece} → IsItem text ts us ps
      → weigh_pieces mass ps + weight mass us ≤ weight mass ts
  le_item (item_import d1) = omega (arith, le_import d1)
  le_item (item_object d1) = omega (arith, le_object d1)
  le_item (item_class d1) = omega (arith, le_class d1, class_weight d1)

  pub le_more_items : {ts us : List Token} {ps : List Piece} → IsMoreItems text ts us ps
      → weigh_pieces mass ps + weight mass us ≤ weight mass ts
  le_more_items no_more_items = omega arith
  le_more_items (one_more_item {ps = ps} {qs = qs} d1 d2 d3) =
      omega (arith, le_semis text mass d1, le_item d2, le_more_items d3, both_weight ps qs)

  pub le_items : {ts us : List Token} {ps : List Piece} → IsItems text ts us ps
      → weigh_pieces mass ps + weight mass us ≤ weight mass ts
  le_items no_items = omega arith
  le_items (items {ps = ps} {qs = qs} d1 d2) = omega (arith, le_item d1, le_more_items d2, both_weight ps qs)

  pub le_packages : {ts us : List Token} → IsPackages text ts us → weight mass us ≤ weight mass ts
  le_packages no_package = omega arith
  le_packages (one_package p e1 d2 d3 d4) = omega (arith, le_path d2, le_semis text mass d3, le_packages d4)

  pub le_unit : {ts : List Token} {u : UnitTree} → SpellsUnit text ts u → weigh_decls mass u.decls ≤ weight mass ts
  le_unit (unit e d1 d2 d3 d4 is) =
      omega (arith, le_gap text mass d1, le_packages d2, le_items d3, le_gap text mass d4)

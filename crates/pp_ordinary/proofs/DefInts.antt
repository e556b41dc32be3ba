-- The numbers of the functions that a text spells are Ints.
use Rattle.std.proofs.Common.{◌≡◌, ℕ, Bool, true, false, List, [], ◌∷◌, ◌++◌, Option, Some, None}
use Rattle.pp_grammar.specs.Units.{IsClass, IsDef, IsImport, IsItem, IsItems, IsMember, IsMembers, IsMoreItems}
use Rattle.pp_grammar.specs.Units.{IsMoreMembers, IsObject, Piece, SpellsUnit, case_object, class_decl, class_of}
use Rattle.pp_grammar.specs.Units.{decl_piece, decls_of, def_of, import_piece, item_class, item_import, item_object}
use Rattle.pp_grammar.specs.Units.{items, library, member_class, member_def, member_import, members, no_items}
use Rattle.pp_grammar.specs.Units.{no_members, no_more_items, no_more_members, object_of, object_piece, of_object}
use Rattle.pp_grammar.specs.Units.{one_more_item, one_more_member, root_or_other, unit}
use Rattle.pp_tokens.specs.Layout.{IsToken}
use Rattle.pp_tokens.specs.Tokens.{spelled, tokens_of}
use Rattle.pp_tokens.specs.declared.token.Token.{Token}
use Rattle.pp_tokens.specs.declared.token.TokenKind.{TokenKind}
use Rattle.pp_tokens.specs.declared.token.TokenKind.TheVariants.{Hex}
use Rattle.pp_tokens.proofs.Every.{Every}
use Rattle.pp_tree.specs.Plain.{ClassTree, DeclTree, ParamTree, TypeTree, UnitTree, Word, def}
use Rattle.pp_types_laws.specs.Literals.{DefInts}
use Rattle.pp_plain_names.proofs.Left.{left_annotations, left_break, left_gap, left_item, left_member, left_packages}
use Rattle.pp_plain_names.proofs.Left.{left_param_list, left_semis, left_type, left_type_params}
use Rattle.pp_ordinary.proofs.EachToken.{as_all, each_token}
use Rattle.pp_ordinary.proofs.Ints.{AllNarrow, Narrow, ints_body}
use Rattle.pp_ordinary.proofs.Numbers.{IsNarrow}

-- the numbers of a declaration
abbrev pub DeclInts : DeclTree → Type 0
DeclInts (def d) = DefInts d
DeclInts _ = Unit {0}

-- the numbers of the declarations among pieces
abbrev PiecesInts : List Piece → Type 0
PiecesInts ps = Every DeclInts (decls_of ps)

both_pieces : (ps qs : List Piece) → PiecesInts ps → PiecesInts qs → PiecesInts (ps ++ qs)
both_pieces [] qs h k = k
both_pieces (import_piece i ∷ ps) qs h k = both_pieces ps qs h k
both_pieces (object_piece w ∷ ps) qs h k = both_pieces ps qs h k
both_pieces (decl_piece d ∷ ps) qs h k = (h.0, both_pieces ps qs h.1 k)

other_ints : (ps : List ParamTree) (parent : Option TypeTree) (c : ClassTree) → DeclInts (root_or_other ps parent c)
other_ints [] None c = tt
other_ints [] (Some t) c = tt
other_ints (p ∷ ps) parent c = tt

class_ints : (sealed case trait : Bool) (c : ClassTree) → DeclInts (class_decl sealed case trait c)
class_ints sealed true false c = tt
class_ints true false trait c = other_ints c.fields c.parent c
class_ints true true true c = tt
class_ints false false trait c = tt
class_ints false true true c = tt

module _ (text : Word) where
  ints_def : {ts us : List Token} {d : DeclTree} → IsDef text ts us d → AllNarrow text ts → DeclInts d
  ints_def (def_of d n c q d1 e2 e3 d4 d5 e6 d7 e8 d9) ok =
      ints_body text d9
      (left_type text Narrow d7
      (left_param_list text Narrow d5
      (left_type_params text Narrow d4 (left_annotations text Narrow d1 ok).1.1)).1).1

  ints_class : {ts us : List Token} {d : DeclTree} → IsClass text ts us d → DeclInts d
  ints_class (class_of {m = m} {trait = trait} k n d1 d2 e3 e4 d5 d6 d7) = class_ints m.sealed m.case trait _
  ints_class (case_object c k n x d1 e2 e3 e4 e5 d6) = tt

  ints_import : {ts us : List Token} {ps : List Piece} → IsImport text ts us ps → PiecesInts ps
  ints_import (library n d1 _) = tt
  ints_import (of_object n d1 _) = tt

  ints_member : {ts us : List Token} {ps : List Piece} → IsMember text ts us ps → AllNarrow text ts → PiecesInts ps
  ints_member (member_import d1) ok = ints_import d1
  ints_member (member_class d1) ok = (ints_class d1, tt)
  ints_member (member_def d1) ok = (ints_def d1 ok, tt)

  ints_more_members : {ts us : List Token} {ps : List Piece} → IsMoreMembers text ts us ps → AllNarrow text ts
      → PiecesInts ps
  ints_more_members no_more_members ok = tt
  ints_more_members (one_more_member {ps = ps} {qs = qs} d1 d2 d3) ok =
      let here = left_semis text Narrow d1 ok in
      both_pieces ps qs (ints_member d2 here) (ints_more_members d3 (left_member text Narrow d2 here))

  ints_members : {ts us : List Token} {ps : List Piece} → IsMembers text ts us ps → AllNarrow text ts → PiecesInts ps
  ints_members no_members ok = tt
  ints_members (members {ps = ps} {qs = qs} d1 d2) ok =
      both_pieces ps qs (ints_member d1 ok) (ints_more_members d2 (left_member text Narrow d1 ok))

  ints_object : {ts us : List Token} {ps : List Piece} → IsObject text ts us ps → AllNarrow text ts → PiecesInts ps
  ints_object (object_of b n o c e1 e2 d3 e4 d5 d6 d7 e8) ok =
      ints_members d6 (left_gap text Narrow d5 (left_break text Narrow d3 ok.1.1).1)

  ints_item : {ts us : List Token} {ps : List Piece} → IsItem text ts us ps → AllNarrow text ts → PiecesInts ps
  ints_item (item_import d1) ok = ints_import d1
  ints_item (item_object d1) ok = ints_object d1 ok
  ints_item (item_class d1) ok = (ints_class d1, tt)

  ints_more_items : {ts us : List Token} {ps : List Piece} → IsMoreItems text ts us ps → AllNarrow text ts
      → PiecesInts ps
  ints_more_items no_more_items ok = tt
  ints_more_items (one_more_item {ps = ps} {qs = qs} d1 d2 d3) ok =
      let here = left_semis text Narrow d1 ok in
      both_pieces ps qs (ints_item d2 here) (ints_more_items d3 (left_item text Narrow d2 here))

  ints_items : {ts us : List Token} {ps : List Piece} → IsItems text ts us ps → AllNarrow text ts → PiecesInts ps
  ints_items no_items ok = tt
  ints_items (items {ps = ps} {qs = qs} d1 d2) ok =
      both_pieces ps qs (ints_item d1 ok) (ints_more_items d2 (left_item text Narrow d1 ok))

  ints_unit : {ts : List Token} {u : UnitTree} → SpellsUnit text ts u → AllNarrow text ts → Every DeclInts u.decls
  ints_unit (unit e g packages r h is) ok =
      ints_items r (left_packages text Narrow packages (left_gap text Narrow g ok))

-- ---- the tokens of a text

narrow_kind : (k : TokenKind) (cs after : List ℕ) → IsToken k cs after → IsNarrow k
narrow_kind (Hex n) cs after h = h.small
narrow_kind _ cs after h = tt

module _ (text : Word) (ts : List Token) (cut : tokens_of text ≡ spelled ts) where
  narrow_tokens : AllNarrow text ts
  narrow_tokens =
      as_all text Narrow ts
      (each_token Narrow (λ k cs after from h. narrow_kind k cs after h) (λ at. tt) text ts cut)

  pub spelled_ints : (u : UnitTree) → SpellsUnit text ts u → Every DeclInts u.decls
  spelled_ints u spells = ints_unit text spells narrow_tokens

-- What holds of each class and each function that tokens spell holds of the declarations of their unit. So where the
-- names among the tokens are words, the declared names and those of parameters are, and case objects have no fields.
use Rattle.std.proofs.Common.{◌≡◌, Bool, true, false, List, [], ◌∷◌, ◌++◌, Option, Some, None, refl}
use Rattle.std.specs.Prelude.{Contains}
use Rattle.pp_grammar.specs.Units.{IsClass, IsDef, IsImport, IsItem, IsItems, IsMember, IsMembers, IsMoreItems}
use Rattle.pp_grammar.specs.Units.{IsMoreMembers, IsObject, IsParamList, IsParams, Piece, SpellsUnit, case_object}
use Rattle.pp_grammar.specs.Units.{class_decl, class_of, decl_piece, decls_of, def_of, empty_list, import_piece}
use Rattle.pp_grammar.specs.Units.{item_class, item_import, item_object, items, last_param, library, member_class}
use Rattle.pp_grammar.specs.Units.{member_def, member_import, members, no_items, no_list, no_members, no_more_items}
use Rattle.pp_grammar.specs.Units.{no_more_members, object_of, object_piece, of_object, one_more_item}
use Rattle.pp_grammar.specs.Units.{one_more_member, one_more_param, param_list, root_or_other, unit}
use Rattle.pp_grammar.specs.Words.{word}
use Rattle.pp_tokens.specs.declared.token.Token.{Token}
use Rattle.pp_tokens.specs.declared.token.TokenKind.TheVariants.{Name}
use Rattle.pp_tree.specs.Plain.{ClassTree, DeclTree, DefTree, ParamTree, TypeTree, UnitTree, Word, ctor, def, other}
use Rattle.pp_tree.specs.Plain.{root}
use Rattle.std.proofs.lemmas.List.Elements.{All-contains}
use Rattle.pp_tokens.proofs.Every.{Every, all_of}
use Rattle.pp_plain_names.proofs.Left.{AllOf, left_annotations, left_break, left_gap, left_item, left_member}
use Rattle.pp_plain_names.proofs.Left.{left_modified, left_packages, left_semis, left_type, left_type_params}
use Rattle.pp_plain_names.specs.Laws.{IsBareObject, IsWord, declared_name}

-- the name of a token of this text is a word, if it is one
abbrev pub WordName : Word → Token → Type 0
WordName text t = t.kind ≡ Name → IsWord (word text t)

-- ---- each declaration

module _ (text : Word) (Holds : Token → Type 0) (P : DeclTree → Type 0) where
  -- what holds of the declarations among the pieces
  abbrev OfPieces : List Piece → Type 0
  OfPieces [] = Unit {0}
  OfPieces (import_piece i ∷ ps) = OfPieces ps
  OfPieces (object_piece w ∷ ps) = OfPieces ps
  OfPieces (decl_piece d ∷ ps) = P d × OfPieces ps

  of_both : (ps qs : List Piece) → OfPieces ps → OfPieces qs → OfPieces (ps ++ qs)
  of_both [] qs h k = k
  of_both (import_piece i ∷ ps) qs h k = of_both ps qs h k
  of_both (object_piece w ∷ ps) qs h k = of_both ps qs h k
  of_both (decl_piece d ∷ ps) qs h k = (h.0, of_both ps qs h.1 k)

  abbrev Tokens : List Token → Type 0
  Tokens = AllOf text Holds

  each_declared : (ps : List Piece) → OfPieces ps → Every P (decls_of ps)
  each_declared [] h = tt
  each_declared (import_piece i ∷ ps) h = each_declared ps h
  each_declared (object_piece w ∷ ps) h = each_declared ps h
  each_declared (decl_piece d ∷ ps) h = (h.0, each_declared ps h.1)

  of_import : {ts us : List Token} {ps : List Piece} → IsImport text ts us ps → OfPieces ps
  of_import (library n d1 _) = tt
  of_import (of_object n d1 _) = tt

  module _ (of_class : (ts us : List Token) (d : DeclTree) → IsClass text ts us d → Tokens ts → P d)
      (of_def : (ts us : List Token) (d : DeclTree) → IsDef text ts us d → Tokens ts → P d) where
    of_member : {ts us : List Token} {ps : List Piece} → IsMember text ts us ps → Tokens ts → OfPieces ps
    of_member (member_import d1) ok = of_import d1
    of_member (member_class d1) ok = (of_class _ _ _ d1 ok, tt)
    of_member (member_def d1) ok = (of_def _ _ _ d1 ok, tt)

    of_more_members : {ts us : List Token} {ps : List Piece} → IsMoreMembers text ts us ps → Tokens ts → OfPieces ps
    of_more_members no_more_members ok = tt
    of_more_members (one_more_member {ps = ps} {qs = qs} d1 d2 d3) ok =
        let here = left_semis text Holds d1 ok in
        of_both ps qs (of_member d2 here) (of_more_members d3 (left_member text Holds d2 here))

    of_members : {ts us : List Token} {ps : List Piece} → IsMembers text ts us ps → Tokens ts → OfPieces ps
    of_members no_members ok = tt
    of_members (members {ps = ps} {qs = qs} d1 d2) ok =
        of_both ps qs (of_member d1 ok) (of_more_members d2 (left_member text Holds d1 ok))

    of_object_text : {ts us : List Token} {ps : List Piece} → IsObject text ts us ps → Tokens ts → OfPieces ps
    of_object_text (object_of b n o c e1 e2 d3 e4 d5 d6 d7 e8) ok =
        of_members d6 (left_gap text Holds d5 (left_break text Holds d3 ok.1.1).1)

    of_item : {ts us : List Token} {ps : List Piece} → IsItem text ts us ps → Tokens ts → OfPieces ps
    of_item (item_import d1) ok = of_import d1
    of_item (item_object d1) ok = of_object_text d1 ok
    of_item (item_class d1) ok = (of_class _ _ _ d1 ok, tt)

    of_more_items : {ts us : List Token} {ps : List Piece} → IsMoreItems text ts us ps → Tokens ts → OfPieces ps
    of_more_items no_more_items ok = tt
    of_more_items (one_more_item {ps = ps} {qs = qs} d1 d2 d3) ok =
        let here = left_semis text Holds d1 ok in
        of_both ps qs (of_item d2 here) (of_more_items d3 (left_item text Holds d2 here))

    of_items : {ts us : List Token} {ps : List Piece} → IsItems text ts us ps → Tokens ts → OfPieces ps
    of_items no_items ok = tt
    of_items (items {ps = ps} {qs = qs} d1 d2) ok =
        of_both ps qs (of_item d1 ok) (of_more_items d2 (left_item text Holds d1 ok))

    among : (ps : List Piece) (d : DeclTree) → OfPieces ps → Contains (decls_of ps) d → P d
    among ps d holds here = All-contains P (decls_of ps) d (all_of P (decls_of ps) (each_declared ps holds)) here

    of_unit : {ts : List Token} {u : UnitTree} (d : DeclTree) → SpellsUnit text ts u → Tokens ts → Contains u.decls d
        → P d
    of_unit d (unit {ps = ps} e g packages r h is) ok here =
        among ps d (of_items r (left_packages text Holds packages (left_gap text Holds g ok))) here

-- ---- classes

-- what holds of a class as root, as constructor and as neither holds of what it declares
module _ (P : DeclTree → Type 0) (c : ClassTree) (as_root : P (root c)) (as_ctor : P (ctor c)) (as_other : P (other c))
  where
    root_form : (ps : List ParamTree) (parent : Option TypeTree) → P (root_or_other ps parent c)
    root_form [] None = as_root
    root_form [] (Some t) = as_other
    root_form (p ∷ ps) parent = as_other

    class_form : (sealed case trait : Bool) → P (class_decl sealed case trait c)
    class_form sealed true false = as_ctor
    class_form true false trait = root_form c.fields c.parent
    class_form true true true = as_other
    class_form false false trait = as_other
    class_form false true true = as_other

-- ---- names

module _ (text : Word) where
  abbrev Names : List Token → Type 0
  Names = AllOf text (WordName text)

  abbrev IsNamed : DeclTree → Type 0
  IsNamed d = IsWord (declared_name d)

  named_def : {ts us : List Token} {d : DeclTree} → IsDef text ts us d → Names ts → IsNamed d
  named_def (def_of d n c q d1 e2 e3 d4 d5 e6 d7 e8 d9) ok = (left_annotations text (WordName text) d1 ok).1.0 e3

  named_class : {ts us : List Token} {d : DeclTree} → IsClass text ts us d → Names ts → IsNamed d
  named_class (class_of {m = m} {trait = trait} k n d1 d2 e3 e4 d5 d6 d7) ok =
      let word = (left_modified text (WordName text) d2 (left_annotations text (WordName text) d1 ok)).1.0 e4 in
      class_form IsNamed _ word word word m.sealed m.case trait
  named_class (case_object c k n x d1 e2 e3 e4 e5 d6) ok = (left_annotations text (WordName text) d1 ok).1.1.0 e4

  pub word_unit : {ts : List Token} {u : UnitTree} (d : DeclTree) → SpellsUnit text ts u → Names ts
      → Contains u.decls d → IsWord (declared_name d)
  word_unit = of_unit text (WordName text) IsNamed (λ ts us d h. named_class h) (λ ts us d h. named_def h)

  -- ---- parameters

  abbrev IsWordly : ParamTree → Type 0
  IsWordly q = IsWord q.name

  abbrev HasParams : DeclTree → Type 0
  HasParams (def d) = Every IsWordly d.params
  HasParams _ = Unit {0}

  word_params : {ts us : List Token} {ps : List ParamTree} → IsParams text ts us ps → Names ts → Every IsWordly ps
  word_params (last_param n c e e1 e2 d3 e4) ok = (ok.0 e1, tt)
  word_params (one_more_param n c e e1 e2 d3 e4 d5) ok =
      (ok.0 e1, word_params d5 (left_type text (WordName text) d3 ok.1.1).1)

  word_list : {ts us : List Token} {listed : Bool} {ps : List ParamTree} → IsParamList text ts us listed ps → Names ts
      → Every IsWordly ps
  word_list no_list ok = tt
  word_list (empty_list o c e1 e2) ok = tt
  word_list (param_list o e1 d2) ok = word_params d2 ok.1

  params_def : {ts us : List Token} {d : DeclTree} → IsDef text ts us d → Names ts → HasParams d
  params_def (def_of d n c q d1 e2 e3 d4 d5 e6 d7 e8 d9) ok =
      word_list d5 (left_type_params text (WordName text) d4 (left_annotations text (WordName text) d1 ok).1.1)

  params_class : {ts us : List Token} {d : DeclTree} → IsClass text ts us d → Names ts → HasParams d
  params_class (class_of {m = m} {trait = trait} k n d1 d2 e3 e4 d5 d6 d7) ok =
      class_form HasParams _ tt tt tt m.sealed m.case trait
  params_class (case_object c k n x d1 e2 e3 e4 e5 d6) ok = tt

  pub params_unit : {ts : List Token} {u : UnitTree} (d : DefTree) → SpellsUnit text ts u → Names ts
      → Contains u.decls (def d) → Every IsWordly d.params
  params_unit d =
      of_unit text (WordName text) HasParams (λ ts us d h. params_class h) (λ ts us d h. params_def h) (def d)

-- ---- objects

no_object : {A : Type 0} → false ≡ true → A
no_object e = cc

module _ (text : Word) where
  abbrev Any : Token → Type 0
  Any t = Unit {0}

  any_tokens : (ts : List Token) → AllOf text Any ts
  any_tokens [] = tt
  any_tokens (t ∷ ts) = (tt, any_tokens ts)

  bare_def : {ts us : List Token} {d : DeclTree} → IsDef text ts us d → AllOf text Any ts → IsBareObject d
  bare_def (def_of d n c q d1 e2 e3 d4 d5 e6 d7 e8 d9) ok = tt

  bare_class : {ts us : List Token} {d : DeclTree} → IsClass text ts us d → AllOf text Any ts → IsBareObject d
  bare_class (class_of {m = m} {trait = trait} k n d1 d2 e3 e4 d5 d6 d7) ok =
      class_form IsBareObject _ tt (λ is. no_object is) tt m.sealed m.case trait
  bare_class (case_object c k n x d1 e2 e3 e4 e5 d6) ok = λ is. refl

  pub bare_unit : {ts : List Token} {u : UnitTree} (d : DeclTree) → SpellsUnit text ts u → Contains u.decls d
      → IsBareObject d
  bare_unit {ts} d spells here =
      of_unit text Any IsBareObject (λ ts us d h. bare_class h) (λ ts us d h. bare_def h) d spells (any_tokens ts) here

-- Units that are read in part.
use Rattle.pp_grammar.specs.Frames.{Parsed}
use Rattle.pp_grammar.specs.Joining.{nothing_parsed, onto, unit_of}
use Rattle.pp_grammar.specs.Types.{IsBreak, IsGap, IsSemis, no_semi, one_semi, semis}
use Rattle.pp_grammar.specs.Units.{IsAnnotations, IsChoice, IsDef, IsImport, IsItem, IsItems, IsMember, IsMembers}
use Rattle.pp_grammar.specs.Units.{IsModified, IsMoreItems, IsMoreMembers, IsPackages, IsPath, Modifiers, Piece}
use Rattle.pp_grammar.specs.Units.{SpellsUnit, decl_piece, decls_of, import_piece, imports_of, is_one, item_class}
use Rattle.pp_grammar.specs.Units.{item_import, item_object, items, last_of_path, member_class, member_def}
use Rattle.pp_grammar.specs.Units.{member_import, members, modified, more_of_path, no_items, no_members, no_more_items}
use Rattle.pp_grammar.specs.Units.{no_more_members, no_package, object_of, object_piece, objects_of, one_annotation}
use Rattle.pp_grammar.specs.Units.{one_modifier, one_more_chosen, one_more_item, one_more_member, one_package, unit}
use Rattle.pp_grammar.specs.Units.{unit_of_pieces, unmodified}
use Rattle.pp_grammar.specs.Words.{is_known_annotation, is_semi, word}
use Rattle.pp_grammar_sound.proofs.Fronts.{gap_goes_on, semis_go_on}
use Rattle.pp_grammar_sound.proofs.Modes.{Declares, declares_class, declares_def}
use Rattle.pp_tokens.specs.declared.token.Bracket.TheVariants.{CloseBrace, Comma, Dot, OpenBrace}
use Rattle.pp_tokens.specs.declared.token.Operator.TheVariants.{At}
use Rattle.pp_tokens.specs.declared.token.Reserved.TheVariants.{Object, Package}
use Rattle.pp_tokens.specs.declared.token.Token.{Token}
use Rattle.pp_tokens.specs.declared.token.TokenKind.TheVariants.{End, Mark, Name, Op, Word as Reserve}
use Rattle.pp_tree.specs.Plain.{DeclTree, ImportTree, UnitTree, Word}
use Rattle.std.proofs.Common.{Bool, List, Some, [], ap, false, refl, subst, suc, sym, true, ℕ, ◌++◌, ◌∙◌, ◌∷◌, ◌≡◌}
use Rattle.std.proofs.lemmas.List.{append-nil, append_assoc}
use Rattle.std.proofs.lemmas.List.{append_assoc, append-nil}

abbrev pub added_piece : Parsed → Piece → Parsed
added_piece d (import_piece i) = record d { imports = i ∷ d.imports }
added_piece d (object_piece w) = record d { objects = w ∷ d.objects }
added_piece d (decl_piece x) = record d { decls = x ∷ d.decls }

-- what is parsed, with pieces behind it
abbrev pub added : Parsed → List Piece → Parsed
added d [] = d
added d (p ∷ ps) = added (added_piece d p) ps

pub added_append : (d : Parsed) (ps qs : List Piece) → added d (ps ++ qs) ≡ added (added d ps) qs
added_append d [] qs = refl
added_append d (p ∷ ps) qs = added_append (added_piece d p) ps qs

pub added_one : (d : Parsed) (ps : List Piece) (p : Piece) (e : Parsed) → e ≡ added d ps
    → added_piece e p ≡ added d (ps ++ p ∷ [])
added_one d ps p e is = ap (λ (x : Parsed). added_piece x p) is ∙ sym (added_append d ps (p ∷ []))

imports_added : (d : Parsed) (ps : List Piece) → onto (added d ps).imports [] ≡ onto d.imports (imports_of ps)
imports_added d [] = refl
imports_added d (import_piece i ∷ ps) = imports_added (added_piece d (import_piece i)) ps
imports_added d (object_piece w ∷ ps) = imports_added (added_piece d (object_piece w)) ps
imports_added d (decl_piece x ∷ ps) = imports_added (added_piece d (decl_piece x)) ps

objects_added : (d : Parsed) (ps : List Piece) → onto (added d ps).objects [] ≡ onto d.objects (objects_of ps)
objects_added d [] = refl
objects_added d (import_piece i ∷ ps) = objects_added (added_piece d (import_piece i)) ps
objects_added d (object_piece w ∷ ps) = objects_added (added_piece d (object_piece w)) ps
objects_added d (decl_piece x ∷ ps) = objects_added (added_piece d (decl_piece x)) ps

decls_added : (d : Parsed) (ps : List Piece) → onto (added d ps).decls [] ≡ onto d.decls (decls_of ps)
decls_added d [] = refl
decls_added d (import_piece i ∷ ps) = decls_added (added_piece d (import_piece i)) ps
decls_added d (object_piece w ∷ ps) = decls_added (added_piece d (object_piece w)) ps
decls_added d (decl_piece x ∷ ps) = decls_added (added_piece d (decl_piece x)) ps

-- what is parsed of pieces makes their unit
pub unit_added : (ps : List Piece) → unit_of (added nothing_parsed ps) ≡ unit_of_pieces ps
unit_added ps =
    let f : List ImportTree → List Word → List DeclTree → UnitTree = λ i o d. record {
      imports = i;
      objects = o;
      decls = d;
    } in
    let e = added nothing_parsed ps in
    ap (λ i. f i (onto e.objects []) (onto e.decls [])) (imports_added nothing_parsed ps)
    ∙ ap (λ o. f (imports_of ps) o (onto e.decls [])) (objects_added nothing_parsed ps)
    ∙ ap (λ d. f (imports_of ps) (objects_of ps) d) (decls_added nothing_parsed ps)

pub semis_gap : {ts us : List Token} → IsSemis ts us → IsGap ts us
semis_gap (semis t is g) = one_semi t is g

module _ (text : Word) where
  -- ---- paths

  pub path_goes_on : {ts us : List Token} {k : ℕ} (dot n : Token) → IsPath text ts (dot ∷ n ∷ us) k
      → dot.kind ≡ Mark Dot → n.kind ≡ Name → IsPath text ts us (suc k)
  path_goes_on dot n (last_of_path m is_m) is_d is_n = more_of_path m dot is_m is_d (last_of_path n is_n)
  path_goes_on dot n (more_of_path m e is_m is_e r) is_d is_n = more_of_path m e is_m is_e (path_goes_on dot n r
      is_d is_n)

  pub longer_path : {ts us : List Token} {k : ℕ} → IsPath text ts us k → is_one (suc k) ≡ false
  longer_path (last_of_path m is_m) = refl
  longer_path (more_of_path m e is_m is_e r) = refl

  -- ---- packages

  pub data FrontPackages : List Token → List Token → Type 0 where
    packages_none : {ts : List Token} → FrontPackages ts ts
    packages_more : {ts us vs ws : List Token} {k : ℕ} (p : Token) → FrontPackages ts (p ∷ us)
        → p.kind ≡ Reserve Package → IsPath text us vs k → IsSemis vs ws → FrontPackages ts ws

  pub packages_behind : {ts us vs : List Token} → FrontPackages ts us → IsPackages text us vs → IsPackages text ts vs
  packages_behind packages_none r = r
  packages_behind (packages_more p f is path sm) r = packages_behind f (one_package p is path sm r)

  -- where a package or an item may come
  pub data StartAt : List Token → List Token → Type 0 where
    start_at : {ts us vs : List Token} → IsGap ts us → FrontPackages us vs → StartAt ts vs

  pub start_goes_on : {ts us : List Token} (t : Token) → is_semi t.kind ≡ true → StartAt ts (t ∷ us) → StartAt ts us
  start_goes_on t is (start_at g packages_none) = start_at (gap_goes_on t is g) packages_none
  start_goes_on t is (start_at g (packages_more p f is_p path sm)) =
      start_at g (packages_more p f is_p path (semis_go_on t is sm))

  pub start_with_package : {ts us vs ws : List Token} {k : ℕ} (p : Token) → StartAt ts (p ∷ us)
      → p.kind ≡ Reserve Package → IsPath text us vs k → IsSemis vs ws → StartAt ts ws
  start_with_package p (start_at g f) is path sm = start_at g (packages_more p f is path sm)

  -- ---- items

  pub record UnitFrom (ts us : List Token) (ps : List Piece) : Type 0 where
    pub first : List Token
    pub second : List Token
    pub gap : IsGap ts first
    pub packages : IsPackages text first second
    pub reads : IsItems text second us ps

  -- behind an item
  abbrev pub ItemsEnd : List Token → List Token → List Piece → Type 0
  ItemsEnd ts us ps = (vs : List Token) (qs : List Piece) → IsMoreItems text us vs qs → UnitFrom ts vs (ps ++ qs)

  -- where an item may come
  pub data Outer : List Token → List Token → List Piece → Type 0 where
    outer_start : {ts us : List Token} → StartAt ts us → Outer ts us []
    outer_more : {ts us vs : List Token} {ps : List Piece} → ItemsEnd ts us ps → IsSemis us vs → Outer ts vs ps

  outer_goes_on : {ts us : List Token} {ps : List Piece} (t : Token) → is_semi t.kind ≡ true → Outer ts (t ∷ us) ps
      → Outer ts us ps
  outer_goes_on t is (outer_start st) = outer_start (start_goes_on t is st)
  outer_goes_on t is (outer_more f sm) = outer_more f (semis_go_on t is sm)

  started : {ts us vs ws : List Token} {qs rs : List Piece} → StartAt ts us → IsItem text us vs qs
      → IsMoreItems text vs ws rs → UnitFrom ts ws (qs ++ rs)
  started (start_at g f) item more = record {
    first = _;
    second = _;
    gap = g;
    packages = packages_behind f
        no_package;
    reads = items item more;
  }

  outer_item : {ts us vs : List Token} {ps qs : List Piece} → Outer ts us ps → IsItem text us vs qs
      → ItemsEnd ts vs (ps ++ qs)
  outer_item (outer_start st) item ws rs more = started st item more
  outer_item {ts = ts} {ps = ps} {qs = qs} (outer_more f sm) item ws rs more =
      let P : List Piece → Type 0 = λ x. UnitFrom ts ws x in
      subst P (sym (append_assoc ps qs rs)) (f ws (qs ++ rs) (one_more_item sm item more))

  -- ---- members of an object

  pub data ObjectAt : List Token → List Token → List Piece → Word → Type 0 where
    object_at : {ts us vs : List Token} {ps : List Piece} (b n o : Token) → Outer ts (b ∷ n ∷ us) ps
        → b.kind ≡ Reserve Object → n.kind ≡ Name → IsBreak us (o ∷ vs) → o.kind ≡ Mark OpenBrace
        → ObjectAt ts vs ps (word text n)

  pub record MembersFrom (ts us : List Token) (ps : List Piece) (w : Word) (ms : List Piece) : Type 0 where
    pub first : List Token
    pub second : List Token
    pub opens : ObjectAt ts first ps w
    pub gap : IsGap first second
    pub reads : IsMembers text second us ms

  abbrev pub MembersEnd : List Token → List Token → List Piece → Word → List Piece → Type 0
  MembersEnd ts us ps w ms =
      (vs : List Token) (qs : List Piece) → IsMoreMembers text us vs qs → MembersFrom ts vs ps w (ms ++ qs)

  pub data Inner : List Token → List Token → List Piece → Word → List Piece → Type 0 where
    inner_start : {ts us vs : List Token} {ps : List Piece} {w : Word} → ObjectAt ts us ps w → IsGap us vs
        → Inner ts vs ps w []
    inner_more : {ts us vs : List Token} {ps : List Piece} {w : Word} {ms : List Piece} → MembersEnd ts us ps w ms
        → IsSemis us vs → Inner ts vs ps w ms

  inner_goes_on : {ts us : List Token} {ps : List Piece} {w : Word} {ms : List Piece} (t : Token)
      → is_semi t.kind ≡ true → Inner ts (t ∷ us) ps w ms → Inner ts us ps w ms
  inner_goes_on t is (inner_start o g) = inner_start o (gap_goes_on t is g)
  inner_goes_on t is (inner_more f sm) = inner_more f (semis_go_on t is sm)

  inner_member : {ts us vs : List Token} {ps : List Piece} {w : Word} {ms qs : List Piece} → Inner ts us ps w ms
      → IsMember text us vs qs → MembersEnd ts vs ps w (ms ++ qs)
  inner_member (inner_start o g) m ws rs more = record {
    first = _;
    second = _;
    opens = o;
    gap = g;
    reads = members
        m more;
  }
  inner_member {ts = ts} {ps = ps} {w = w} {ms = ms} {qs = qs} (inner_more f sm) m ws rs more =
      let P : List Piece → Type 0 = λ x. MembersFrom ts ws ps w x in
      subst P (sym (append_assoc ms qs rs)) (f ws (qs ++ rs) (one_more_member sm m more))

  object_item : {ts us vs ws xs : List Token} {ps : List Piece} {w : Word} {ms : List Piece} (c : Token)
      → ObjectAt ts us ps w → IsGap us vs → IsMembers text vs ws ms → IsGap ws (c ∷ xs) → c.kind ≡ Mark CloseBrace
      → ItemsEnd ts xs (ps ++ object_piece w ∷ ms)
  object_item c (object_at b n o outer is_b is_n br is_o) g m gap is =
      outer_item outer (item_object (object_of b n o c is_b is_n br is_o g m gap is))

  -- an object closes
  object_closes : {ts us vs : List Token} {ps : List Piece} {w : Word} (ms : List Piece) (c : Token)
      → MembersFrom ts us ps w (ms ++ []) → IsGap us (c ∷ vs) → c.kind ≡ Mark CloseBrace
      → ItemsEnd ts vs (ps ++ object_piece w ∷ ms)
  object_closes {ts = ts} {vs = vs} {ps = ps} {w = w} ms c m gap is =
      let P : List Piece → Type 0 = λ x. ItemsEnd ts vs (ps ++ object_piece w ∷ x) in
      subst P (append-nil ms) (object_item c m.opens m.gap m.reads gap is)

  -- ---- both

  -- where an item or a member may come: outside of objects, or inside of one
  pub data Place : List Token → List Token → Bool → List Piece → Type 0 where
    place_outer : {ts us : List Token} {ps : List Piece} → Outer ts us ps → Place ts us false ps
    place_inner : {ts us : List Token} {ps qs : List Piece} {w : Word} {ms : List Piece} → Inner ts us ps w ms
        → qs ≡ ps ++ object_piece w ∷ ms → Place ts us true qs

  -- behind one
  pub data PlaceEnd : List Token → List Token → Bool → List Piece → Type 0 where
    end_outer : {ts us : List Token} {ps : List Piece} → ItemsEnd ts us ps → PlaceEnd ts us false ps
    end_inner : {ts us : List Token} {ps qs : List Piece} {w : Word} (ms : List Piece) → MembersEnd ts us ps w ms
        → qs ≡ ps ++ object_piece w ∷ ms → PlaceEnd ts us true qs

  pub place_goes_on : {ts us : List Token} {b : Bool} {ps : List Piece} (t : Token) → is_semi t.kind ≡ true
      → Place ts (t ∷ us) b ps → Place ts us b ps
  place_goes_on t is (place_outer o) = place_outer (outer_goes_on t is o)
  place_goes_on t is (place_inner i e) = place_inner (inner_goes_on t is i) e

  pub place_behind : {ts us : List Token} {b : Bool} {ps : List Piece} (t : Token) → is_semi t.kind ≡ true
      → PlaceEnd ts (t ∷ us) b ps → Place ts us b ps
  place_behind t is (end_outer f) = place_outer (outer_more f (semis t is no_semi))
  place_behind t is (end_inner ms f e) = place_inner (inner_more {ms = ms} f (semis t is no_semi)) e

  one_more_in : (ps : List Piece) (w : Word) (ms qs : List Piece) (all : List Piece) → all ≡ ps ++ object_piece w ∷ ms
      → all ++ qs ≡ ps ++ object_piece w ∷ (ms ++ qs)
  one_more_in ps w ms qs all e = ap (λ (x : List Piece). x ++ qs) e ∙ append_assoc ps (object_piece w ∷ ms) qs

  pub place_import : {ts us vs : List Token} {b : Bool} {ps qs : List Piece} → Place ts us b ps
      → IsImport text us vs qs → PlaceEnd ts vs b (ps ++ qs)
  place_import (place_outer o) i = end_outer (outer_item o (item_import i))
  place_import {qs = qs} (place_inner {ps = ps} {qs = all} {w = w} {ms = ms} n e) i =
      end_inner _ (inner_member n (member_import i)) (one_more_in ps w ms qs all e)

  -- no function begins here
  abbrev pub NoDef : List Token → Type 0
  NoDef us = (vs : List Token) (x : DeclTree) → IsDef text us vs x → ⊥

  pub place_declares : {ts us vs : List Token} {b : Bool} {ps : List Piece} {x : DeclTree} → Place ts us b ps
      → (b ≡ false → NoDef us) → Declares text us vs x → PlaceEnd ts vs b (ps ++ decl_piece x ∷ [])
  place_declares (place_outer o) none (declares_class c) = end_outer (outer_item o (item_class c))
  place_declares (place_outer o) none (declares_def d) = absurd (none refl _ _ d)
  place_declares {x = x} (place_inner {ps = ps} {qs = all} {w = w} {ms = ms} n e) none (declares_class c) =
      end_inner _ (inner_member n (member_class c)) (one_more_in ps w ms (decl_piece x ∷ []) all e)
  place_declares {x = x} (place_inner {ps = ps} {qs = all} {w = w} {ms = ms} n e) none (declares_def d) =
      end_inner _ (inner_member n (member_def d)) (one_more_in ps w ms (decl_piece x ∷ []) all e)

  -- ---- closing brackets

  subst_end : {ts us : List Token} {ps qs : List Piece} → qs ≡ ps → ItemsEnd ts us ps → PlaceEnd ts us false qs
  subst_end {ts} {us} e f = let P : List Piece → Type 0 = λ x. PlaceEnd ts us false x in subst P (sym e) (end_outer f)

  closes_inner : {ts us : List Token} {ps : List Piece} {w : Word} {ms : List Piece} (c : Token)
      → c.kind ≡ Mark CloseBrace → Inner ts (c ∷ us) ps w ms → ItemsEnd ts us (ps ++ object_piece w ∷ ms)
  closes_inner c is (inner_start o g) =
      object_closes [] c (record { first = _; second = _; opens = o; gap = g; reads = no_members }) no_semi is
  closes_inner {ms = ms} c is (inner_more f sm) = object_closes ms c (f _ [] no_more_members) (semis_gap sm) is

  pub place_closes : {ts us : List Token} {ps : List Piece} (c : Token) → c.kind ≡ Mark CloseBrace
      → Place ts (c ∷ us) true ps → PlaceEnd ts us false ps
  place_closes c is (place_inner i e) = subst_end e (closes_inner c is i)

  pub end_closes : {ts us : List Token} {ps : List Piece} (c : Token) → c.kind ≡ Mark CloseBrace
      → PlaceEnd ts (c ∷ us) true ps → PlaceEnd ts us false ps
  end_closes c is (end_inner ms f e) = subst_end e (object_closes ms c (f _ [] no_more_members) no_semi is)

  unit_closes : {ts us : List Token} (ps : List Piece) (e : Token) → e.kind ≡ End → UnitFrom ts us (ps ++ [])
      → IsGap us (e ∷ []) → SpellsUnit text ts (unit_of_pieces ps)
  unit_closes {ts = ts} ps e is u gap =
      let P : List Piece → Type 0 = λ x. SpellsUnit text ts (unit_of_pieces x) in
      subst P (append-nil ps) (unit e u.gap u.packages u.reads gap is)

  ends_outer : {ts : List Token} {ps : List Piece} (e : Token) → e.kind ≡ End → Outer ts (e ∷ []) ps
      → SpellsUnit text ts (unit_of_pieces ps)
  ends_outer e is (outer_start (start_at g f)) = unit e g (packages_behind f no_package) no_items no_semi is
  ends_outer {ps = ps} e is (outer_more f sm) = unit_closes ps e is (f _ [] no_more_items) (semis_gap sm)

  pub place_ends : {ts : List Token} {ps : List Piece} (e : Token) → e.kind ≡ End → Place ts (e ∷ []) false ps
      → SpellsUnit text ts (unit_of_pieces ps)
  place_ends e is (place_outer o) = ends_outer e is o

  pub end_ends : {ts : List Token} {ps : List Piece} (e : Token) → e.kind ≡ End → PlaceEnd ts (e ∷ []) false ps
      → SpellsUnit text ts (unit_of_pieces ps)
  end_ends {ps = ps} e is (end_outer f) = unit_closes ps e is (f _ [] no_more_items) no_semi

  -- ---- annotations, modifiers and choices

  pub data FrontAnnotations : List Token → List Token → Type 0 where
    annotations_none : {ts : List Token} → FrontAnnotations ts ts
    annotations_more : {ts us vs : List Token} (a n : Token) → FrontAnnotations ts (a ∷ n ∷ us) → a.kind ≡ Op At
        → n.kind ≡ Name → is_known_annotation (word text n) ≡ true → IsBreak us vs → FrontAnnotations ts vs

  pub annotations_behind : {ts us vs : List Token} → FrontAnnotations ts us → IsAnnotations text us vs
      → IsAnnotations text ts vs
  annotations_behind annotations_none r = r
  annotations_behind (annotations_more a n f is_a is_n k br) r =
      annotations_behind f (one_annotation a n is_a is_n k br r)

pub data FrontModified : List Token → List Token → Modifiers → Type 0 where
  modified_none : {ts : List Token} → FrontModified ts ts unmodified
  modified_more : {ts us : List Token} {m n : Modifiers} (t : Token) → FrontModified ts (t ∷ us) m
      → modified m t.kind ≡ Some n → FrontModified ts us n

pub modified_behind : {ts us vs : List Token} {m n : Modifiers} → FrontModified ts us m → IsModified us vs m n
    → IsModified ts vs unmodified n
modified_behind modified_none r = r
modified_behind (modified_more t f is) r = modified_behind f (one_modifier t is r)

pub data FrontChoice : List Token → List Token → Type 0 where
  choice_none : {ts : List Token} → FrontChoice ts ts
  choice_more : {ts us : List Token} (n c : Token) → FrontChoice ts (n ∷ c ∷ us) → n.kind ≡ Name
      → c.kind ≡ Mark Comma → FrontChoice ts us

pub choice_behind : {ts us vs : List Token} → FrontChoice ts us → IsChoice us vs → IsChoice ts vs
choice_behind choice_none r = r
choice_behind (choice_more n c f is_n is_c) r = choice_behind f (one_more_chosen n c is_n is_c r)

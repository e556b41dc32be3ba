-- The automaton reads each unit that is spelled.
use Rattle.pp_grammar.specs.Automaton.{run, start}
use Rattle.pp_grammar.specs.Frames.{ItemMode, Parsed, State, after_item, after_object, after_object_line}
use Rattle.pp_grammar.specs.Frames.{after_object_title, after_package, after_package_name, at_item, at_start, between}
use Rattle.pp_grammar.specs.Frames.{done}
use Rattle.pp_grammar.specs.Joining.{nothing_parsed, unit_of, with_decl, with_object}
use Rattle.pp_grammar.specs.StepItems.{on_declaration, on_item, on_package_name, on_start}
use Rattle.pp_grammar.specs.Types.{IsBreak, IsGap, IsSemis, no_newline, no_semi, one_newline, one_semi, semis}
use Rattle.pp_grammar.specs.Units.{IsDef, IsImportText, IsItem, IsItems, IsMember, IsMembers, IsMoreItems}
use Rattle.pp_grammar.specs.Units.{IsMoreMembers, IsObject, IsPackages, IsPath, Piece, SpellsUnit, case_object}
use Rattle.pp_grammar.specs.Units.{class_of, def_of, import_all, import_path, import_some, item_class, item_import}
use Rattle.pp_grammar.specs.Units.{item_object, items, last_of_path, library, member_class, member_def, member_import}
use Rattle.pp_grammar.specs.Units.{members, more_of_path, no_items, no_members, no_more_items, no_more_members}
use Rattle.pp_grammar.specs.Units.{no_package, object_of, of_object, one_more_item, one_more_member, one_package, unit}
use Rattle.pp_grammar.specs.Words.{is_semi, word}
use Rattle.pp_grammar_complete.proofs.ReachBodies.{MemberEnds, ends_member}
use Rattle.pp_grammar_complete.proofs.ReachHeads.{ItemEnds, def_read, ends_item}
use Rattle.pp_grammar_complete.proofs.ReachItems.{Declaring, annotations_declare, annotations_read, declares_kind}
use Rattle.pp_grammar_complete.proofs.ReachItems.{item_declares, item_gap, item_semis, item_step, modified_declares}
use Rattle.pp_grammar_complete.proofs.ReachItems.{reaches_class, reaches_import, trait_declares}
use Rattle.pp_grammar_sound.proofs.UnitFronts.{added, added_append, unit_added}
use Rattle.pp_tokens.specs.declared.token.Bracket.TheVariants.{CloseBrace, OpenBrace, Semicolon}
use Rattle.pp_tokens.specs.declared.token.Reserved.TheVariants.{Import, Object, Package}
use Rattle.pp_tokens.specs.declared.token.Token.{Token}
use Rattle.pp_tokens.specs.declared.token.TokenKind.{TokenKind}
use Rattle.pp_tokens.specs.declared.token.TokenKind.TheVariants.{End, Mark, Newline, Word as Reserve}
use Rattle.pp_tree.specs.Plain.{DeclTree, UnitTree, Word}
use Rattle.std.proofs.Common.{Bool, List, [], ap, false, refl, sym, true, ℕ, ◌++◌, ◌∙◌, ◌∷◌, ◌≡◌}

module _ (text : Word) where
  -- ---- functions

  reaches_def : (d : Parsed) {ts us : List Token} {x : DeclTree} → IsDef text ts us x → MemberEnds us
      → run text ts (between d true at_item) ≡ run text us (between (with_decl d x) true after_item)
  reaches_def d (def_of {ts = ts} {us = us} e n c q an is is_n tp pl is_c r is_q body) end_it =
      let head = ap declares_kind is in
      item_declares text d true ts (annotations_declare text d true an head) ∙ annotations_read text d true an head
      ∙ ap (λ x. run text (n ∷ us) (on_declaration text e d true x)) is
      ∙ def_read text d true n c q is_n tp pl is_c r is_q body end_it

  -- ---- members of an object

  member_is_item_by : (k : TokenKind) → ends_member k ≡ true → ends_item k ≡ true
  member_is_item_by Newline is = refl
  member_is_item_by (Mark Semicolon) is = refl
  member_is_item_by (Mark CloseBrace) is = refl
  member_is_item_by _ is = absurd (cc)

  member_is_item : (us : List Token) → MemberEnds us → ItemEnds us
  member_is_item [] m = m
  member_is_item (t ∷ us) m = member_is_item_by t.kind m

  semi_ends_member : (k : TokenKind) → is_semi k ≡ true → ends_member k ≡ true
  semi_ends_member Newline is = refl
  semi_ends_member (Mark Semicolon) is = refl
  semi_ends_member _ is = absurd (cc)

  gap_ends_member : {us vs : List Token} → IsGap us vs → MemberEnds vs → MemberEnds us
  gap_ends_member no_semi m = m
  gap_ends_member (one_semi t is g) m = semi_ends_member t.kind is

  semis_end_member : {us vs : List Token} → IsSemis us vs → MemberEnds us
  semis_end_member (semis t is g) = semi_ends_member t.kind is

  reaches_member : (d : Parsed) {ts us : List Token} {ps : List Piece} → IsMember text ts us ps → MemberEnds us
      → run text ts (between d true at_item) ≡ run text us (between (added d ps) true after_item)
  reaches_member d {us = us} (member_import r) m = reaches_import text d true r (member_is_item us m)
  reaches_member d {us = us} (member_class r) m = reaches_class text d true r (member_is_item us m)
  reaches_member d (member_def r) m = reaches_def d r m

  more_members_end : {us vs : List Token} {ps : List Piece} → IsMoreMembers text us vs ps → MemberEnds vs
      → MemberEnds us
  more_members_end no_more_members m = m
  more_members_end (one_more_member sm r rs) m = semis_end_member sm

  added_state : (b : Bool) (us : List Token) (d : Parsed) (ps qs : List Piece) (m : ItemMode)
      → run text us (between (added (added d ps) qs) b m) ≡ run text us (between (added d (ps ++ qs)) b m)
  added_state b us d ps qs m = ap (λ (x : Parsed). run text us (between x b m)) (sym (added_append d ps qs))

  reaches_more_members : (d : Parsed) {ts us : List Token} {ps : List Piece} → IsMoreMembers text ts us ps
      → MemberEnds us
      → run text ts (between d true after_item) ≡ run text us (between (added d ps) true after_item)
  reaches_more_members d no_more_members m = refl
  reaches_more_members d {us = us} (one_more_member {ps = ps} {qs = qs} sm r rs) m =
      item_semis text d true sm ∙ reaches_member d r (more_members_end rs m) ∙ reaches_more_members (added d ps) rs m
      ∙ added_state true us d ps qs after_item

  object_end_step : (d : Parsed) (c : Token) (us : List Token) → c.kind ≡ Mark CloseBrace
      → run text (c ∷ us) (between d true at_item) ≡ run text us (between d false after_item)
  object_end_step d c us is = item_step text d true c us at_item _ is

  after_end_step : (d : Parsed) (c : Token) (us : List Token) → c.kind ≡ Mark CloseBrace
      → run text (c ∷ us) (between d true after_item) ≡ run text us (between d false after_item)
  after_end_step d c us is = item_step text d true c us after_item _ is

  gap_and_brace : (d : Parsed) {us : List Token} (c : Token) (vs : List Token) → IsGap us (c ∷ vs)
      → c.kind ≡ Mark CloseBrace
      → run text us (between d true after_item) ≡ run text vs (between d false after_item)
  gap_and_brace d c vs no_semi is = after_end_step d c vs is
  gap_and_brace d c vs (one_semi t is_t g) is = item_semis text d true (semis t is_t g) ∙ object_end_step d c vs is

  reaches_members : (d : Parsed) {ts us : List Token} {ps : List Piece} (c : Token) (vs : List Token)
      → IsMembers text ts us ps
      → IsGap us (c ∷ vs) → c.kind ≡ Mark CloseBrace
      → run text ts (between d true at_item) ≡ run text vs (between (added d ps) false after_item)
  reaches_members d c vs no_members g is = item_gap text d true g ∙ object_end_step d c vs is
  reaches_members d c vs (members {us = us} {ps = ps} {qs = qs} r rs) g is =
      let m = gap_ends_member g (ap ends_member is) in
      reaches_member d r (more_members_end rs m) ∙ reaches_more_members (added d ps) rs m
      ∙ gap_and_brace (added (added d ps) qs) c vs g is ∙ added_state false vs d ps qs after_item

  -- ---- objects

  title_read : (d : Parsed) {ts : List Token} (o : Token) (us : List Token) → IsBreak ts (o ∷ us)
      → o.kind ≡ Mark OpenBrace
      → run text ts (between d false after_object_title) ≡ run text us (between d true at_item)
  title_read d o us no_newline is = item_step text d false o us after_object_title _ is
  title_read d o us (one_newline t is_t) is =
      item_step text d false t (o ∷ us) after_object_title _ is_t ∙ item_step text d false o us after_object_line _ is

  reaches_object : (d : Parsed) {ts us : List Token} {ps : List Piece} → IsObject text ts us ps
      → run text ts (between d false at_item) ≡ run text us (between (added d ps) false after_item)
  reaches_object d {us = xs} (object_of {ts = ts} {us = us} b n o c is is_n br is_o g ms h is_c) =
      let e : Parsed = with_object d (word text n) in
      item_step text d false b (n ∷ ts) at_item _ is ∙ item_step text d false n ts after_object _ is_n
      ∙ title_read e o us br is_o ∙ item_gap text e true g ∙ reaches_members e c xs ms h is_c

  -- ---- items

  semi_ends_item : (k : TokenKind) → is_semi k ≡ true → ends_item k ≡ true
  semi_ends_item Newline is = refl
  semi_ends_item (Mark Semicolon) is = refl
  semi_ends_item _ is = absurd (cc)

  gap_ends_item : {us vs : List Token} → IsGap us vs → ItemEnds vs → ItemEnds us
  gap_ends_item no_semi m = m
  gap_ends_item (one_semi t is g) m = semi_ends_item t.kind is

  more_items_end : {us vs : List Token} {ps : List Piece} → IsMoreItems text us vs ps → ItemEnds vs → ItemEnds us
  more_items_end no_more_items m = m
  more_items_end (one_more_item (semis t is g) r rs) m = semi_ends_item t.kind is

  reaches_item : (d : Parsed) {ts us : List Token} {ps : List Piece} → IsItem text ts us ps → ItemEnds us
      → run text ts (between d false at_item) ≡ run text us (between (added d ps) false after_item)
  reaches_item d (item_import r) e = reaches_import text d false r e
  reaches_item d (item_object r) e = reaches_object d r
  reaches_item d (item_class r) e = reaches_class text d false r e

  reaches_more_items : (d : Parsed) {ts us : List Token} {ps : List Piece} → IsMoreItems text ts us ps → ItemEnds us
      → run text ts (between d false after_item) ≡ run text us (between (added d ps) false after_item)
  reaches_more_items d no_more_items e = refl
  reaches_more_items d {us = us} (one_more_item {ps = ps} {qs = qs} sm r rs) e =
      item_semis text d false sm ∙ reaches_item d r (more_items_end rs e) ∙ reaches_more_items (added d ps) rs e
      ∙ added_state false us d ps qs after_item

  gap_and_end : (d : Parsed) {us : List Token} (e : Token) → IsGap us (e ∷ []) → e.kind ≡ End
      → run text us (between d false after_item) ≡ done (unit_of d)
  gap_and_end d e no_semi is = item_step text d false e [] after_item _ is
  gap_and_end d e (one_semi t is_t g) is = item_semis text d false (semis t is_t g)
      ∙ item_step text d false e [] at_item _ is

  reaches_items : (d : Parsed) {ts us : List Token} {ps : List Piece} (e : Token) → IsItems text ts us ps
      → IsGap us (e ∷ []) → e.kind ≡ End → run text ts (between d false at_item) ≡ done (unit_of (added d ps))
  reaches_items d e no_items g is = item_gap text d false g ∙ item_step text d false e [] at_item _ is
  reaches_items d e (items {us = us} {ps = ps} {qs = qs} r rs) g is =
      let m = gap_ends_item g (ap ends_item is) in
      reaches_item d r (more_items_end rs m) ∙ reaches_more_items (added d ps) rs m
      ∙ gap_and_end (added (added d ps) qs) e g is ∙ ap (λ (x : Parsed). done (unit_of x)) (sym (added_append d ps
      qs))

  -- ---- packages

  start_semi : (t : Token) (k : TokenKind) → is_semi k ≡ true → on_start text t nothing_parsed false k ≡ between
      nothing_parsed false at_start
  start_semi t Newline is = refl
  start_semi t (Mark Semicolon) is = refl
  start_semi t _ is = absurd (cc)

  start_gap : {ts us : List Token} → IsGap ts us → run text ts start ≡ run text us start
  start_gap no_semi = refl
  start_gap (one_semi {ts = ts} t is g) = ap (λ (x : State). run text ts x) (start_semi t t.kind is) ∙ start_gap g

  package_semi : (t : Token) (k : TokenKind) → is_semi k ≡ true
      → on_package_name text t nothing_parsed false k ≡ between nothing_parsed false at_start
  package_semi t Newline is = refl
  package_semi t (Mark Semicolon) is = refl
  package_semi t _ is = absurd (cc)

  package_path : {ts us : List Token} {k : ℕ} → IsPath text ts us k
      → run text ts (between nothing_parsed false after_package) ≡ run text us (between nothing_parsed false
      after_package_name)
  package_path {us = us} (last_of_path n is) = item_step text nothing_parsed false n us after_package _ is
  package_path (more_of_path {ts = ts} n dot is is_d r) =
      item_step text nothing_parsed false n (dot ∷ ts) after_package _ is
      ∙ item_step text nothing_parsed false dot ts after_package_name _ is_d ∙ package_path r

  package_semis : {ts us : List Token} → IsSemis ts us
      → run text ts (between nothing_parsed false after_package_name) ≡ run text us start
  package_semis (semis {ts = ts} t is g) = ap (λ (x : State). run text ts x) (package_semi t t.kind is) ∙ start_gap g

  reaches_packages : {ts us : List Token} → IsPackages text ts us → run text ts start ≡ run text us start
  reaches_packages no_package = refl
  reaches_packages (one_package {ts = ts} p is r sm rs) =
      item_step text nothing_parsed false p ts at_start _ is ∙ package_path r ∙ package_semis sm ∙ reaches_packages rs

  -- ---- the whole unit

  abbrev begins_item : TokenKind → Bool
  begins_item (Reserve Import) = true
  begins_item (Reserve Object) = true
  begins_item k = declares_kind k

  abbrev Beginning : List Token → Type 0
  Beginning [] = ⊥
  Beginning (t ∷ ts) = begins_item t.kind ≡ true

  declaring_by : (k : TokenKind) → declares_kind k ≡ true → begins_item k ≡ true
  declaring_by (Reserve Import) is = refl
  declaring_by (Reserve Object) is = refl
  declaring_by _ is = is

  declaring_begins : (ts : List Token) → Declaring ts → Beginning ts
  declaring_begins [] e = e
  declaring_begins (t ∷ ts) e = declaring_by t.kind e

  import_text_begins : {ts us : List Token} {n : Token} {x : Bool} → IsImportText text ts us n x → Beginning ts
  import_text_begins (import_path i m is r undotted) = ap begins_item is
  import_text_begins (import_all i m dot h is r is_d is_h) = ap begins_item is
  import_text_begins (import_some i m dot o is r is_d is_o c) = ap begins_item is

  item_begins : {ts us : List Token} {ps : List Piece} → IsItem text ts us ps → Beginning ts
  item_begins (item_import (library n r lib)) = import_text_begins r
  item_begins (item_import (of_object n r lib)) = import_text_begins r
  item_begins (item_object (object_of b n o c is is_n br is_o g ms h is_c)) = ap begins_item is
  item_begins {ts = ts} (item_class (class_of {trait = trait} k n an md is_k is_n tp pl pa)) =
      declaring_begins ts (annotations_declare text nothing_parsed false an (modified_declares md (trait_declares
      k.kind trait is_k)))
  item_begins {ts = ts} (item_class (case_object c k n x an is_c is_k is_n is_x r)) =
      declaring_begins ts (annotations_declare text nothing_parsed false an (ap declares_kind is_c))

  start_item_by : (t : Token) (k : TokenKind) → begins_item k ≡ true
      → on_start text t nothing_parsed false k ≡ on_item text t nothing_parsed false k
  start_item_by t Newline is = absurd (cc)
  start_item_by t (Mark Semicolon) is = absurd (cc)
  start_item_by t (Reserve Package) is = absurd (cc)
  start_item_by t _ is = refl

  start_item : (ts : List Token) → Beginning ts → run text ts start ≡ run text ts (between nothing_parsed false
      at_item)
  start_item [] e = absurd e
  start_item (t ∷ ts) e = ap (λ (x : State). run text ts x) (start_item_by t t.kind e)

  reaches_all : {ts us : List Token} {ps : List Piece} (e : Token) → IsItems text ts us ps → IsGap us (e ∷ [])
      → e.kind ≡ End → run text ts start ≡ done (unit_of (added nothing_parsed ps))
  reaches_all e no_items g is = start_gap g ∙ item_step text nothing_parsed false e [] at_start _ is
  reaches_all {ts = ts} e (items r rs) g is =
      start_item ts (item_begins r) ∙ reaches_items nothing_parsed e (items r rs) g is

  -- what is spelled is the automaton's answer
  pub complete : (ts : List Token) (u : UnitTree) → SpellsUnit text ts u → run text ts start ≡ done u
  complete ts u (unit {ps = ps} e g packages r h is) =
      start_gap g ∙ reaches_packages packages ∙ reaches_all e r h is
      ∙ ap (λ (x : UnitTree). done x) (unit_added ps)

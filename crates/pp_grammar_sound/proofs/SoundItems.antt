-- Each step between declarations keeps what the states say, and what the automaton answers is spelled.
use Rattle.pp_grammar.specs.Automaton.{moved, on_mode, run, start, step}
use Rattle.pp_grammar.specs.Frames.{Move, Parsed, State, after_path_name, between, done, ends, go, stop}
use Rattle.pp_grammar.specs.Joining.{nothing_parsed, unit_of}
use Rattle.pp_grammar.specs.StepItems.{on_after_at, on_after_case, on_after_import, on_after_item, on_after_object}
use Rattle.pp_grammar.specs.StepItems.{on_after_package, on_annotation, on_annotation_name, on_chosen, on_class_word}
use Rattle.pp_grammar.specs.StepItems.{on_declaration, on_def, on_import_all, on_item, on_modified, on_modifiers}
use Rattle.pp_grammar.specs.StepItems.{on_object_closed, on_object_import, on_object_line, on_object_title}
use Rattle.pp_grammar.specs.StepItems.{on_object_word, on_other_import, on_package_name, on_path_dot, on_path_end}
use Rattle.pp_grammar.specs.StepItems.{on_path_name, on_start, on_unit_end, on_want_chosen}
use Rattle.pp_grammar.specs.Types.{IsBreak, no_newline, no_semi, one_newline, semis}
use Rattle.pp_grammar.specs.Units.{IsImportText, IsPath, Modifiers, Piece, SpellsUnit, decl_piece, import_all}
use Rattle.pp_grammar.specs.Units.{import_path, import_some, is_one, last_chosen, last_of_path, library, modified}
use Rattle.pp_grammar.specs.Units.{no_annotation, no_modifier, object_piece, of_object, unit_of_pieces, unmodified}
use Rattle.pp_grammar.specs.Words.{is_dot, is_known_annotation, is_library, is_semi, is_trait_word, word}
use Rattle.pp_grammar_sound.proofs.Modes.{Moved, at_want_class_name, at_want_def_name, at_want_object_name}
use Rattle.pp_grammar_sound.proofs.SoundModes.{keeps_mode}
use Rattle.pp_grammar_sound.proofs.SoundStates.{StateAt, front_begins_class, is_class_kind, no_def_behind, state_after}
use Rattle.pp_grammar_sound.proofs.SoundStates.{state_annotation, state_annotation_line, state_at, state_case}
use Rattle.pp_grammar_sound.proofs.SoundStates.{state_chosen, state_done, state_failed, state_import, state_item}
use Rattle.pp_grammar_sound.proofs.SoundStates.{state_modifiers, state_object, state_object_line, state_object_title}
use Rattle.pp_grammar_sound.proofs.SoundStates.{state_package, state_package_dot, state_package_name, state_path}
use Rattle.pp_grammar_sound.proofs.SoundStates.{state_path_dot, state_start, state_want_chosen, state_within}
use Rattle.pp_grammar_sound.proofs.SoundStates.{trait_is_class}
use Rattle.pp_grammar_sound.proofs.UnitFronts.{FrontAnnotations, FrontChoice, FrontModified, NoDef, Outer, Place}
use Rattle.pp_grammar_sound.proofs.UnitFronts.{PlaceEnd, StartAt, added, added_one, annotations_behind}
use Rattle.pp_grammar_sound.proofs.UnitFronts.{annotations_more, annotations_none, choice_behind, choice_more}
use Rattle.pp_grammar_sound.proofs.UnitFronts.{choice_none, end_closes, end_ends, inner_start, longer_path}
use Rattle.pp_grammar_sound.proofs.UnitFronts.{modified_behind, modified_more, modified_none, object_at, outer_start}
use Rattle.pp_grammar_sound.proofs.UnitFronts.{packages_none, path_goes_on, place_behind, place_closes, place_declares}
use Rattle.pp_grammar_sound.proofs.UnitFronts.{place_ends, place_goes_on, place_import, place_inner, place_outer}
use Rattle.pp_grammar_sound.proofs.UnitFronts.{start_at, start_goes_on, start_with_package, unit_added}
use Rattle.pp_tokens.specs.declared.token.Bracket.TheVariants.{CloseBrace, Comma, Dot, OpenBrace, Semicolon}
use Rattle.pp_tokens.specs.declared.token.Operator.TheVariants.{At}
use Rattle.pp_tokens.specs.declared.token.Reserved.TheVariants.{Case, Def, Import, Object, Package}
use Rattle.pp_tokens.specs.declared.token.Token.{Token}
use Rattle.pp_tokens.specs.declared.token.TokenKind.{TokenKind}
use Rattle.pp_tokens.specs.declared.token.TokenKind.TheVariants.{End, Hole, Mark, Name, Newline, Op, Word as Reserve}
use Rattle.pp_tree.specs.Plain.{UnitTree, Word}
use Rattle.std.proofs.Common.{Bool, List, None, Option, Some, [], ap, false, refl, subst, sym, true, ℕ, ◌++◌, ◌∙◌, ◌∷◌}
use Rattle.std.proofs.Common.{◌≡◌}
use Rattle.std.proofs.lemmas.List.{append-nil}
use Rattle.std.proofs.lemmas.List.{append-nil}

module _ (text : Word) where
  module _ (t : Token) (ts us : List Token) where
    -- ---- the ends of items, objects and units

    closes_object : {d : Parsed} {b : Bool} (ps : List Piece) → t.kind ≡ Mark CloseBrace → d ≡ added nothing_parsed ps
        → (b ≡ true → PlaceEnd text ts us false ps) → StateAt text ts (on_object_closed text t d b) us
    closes_object {b = true} ps is e f = state_after ps e (f refl)
    closes_object {b = false} ps is e f = state_failed

    unit_of_all : {d : Parsed} (ps : List Piece) → d ≡ added nothing_parsed ps
        → SpellsUnit text ts (unit_of_pieces ps) → SpellsUnit text ts (unit_of d)
    unit_of_all ps e u = let P : UnitTree → Type 0 = λ x. SpellsUnit text ts x in subst P (sym (ap unit_of e
        ∙ unit_added ps)) u

    closes_unit : {d : Parsed} {b : Bool} (ps : List Piece) → d ≡ added nothing_parsed ps
        → (b ≡ false → us ≡ [] → SpellsUnit text ts (unit_of_pieces ps)) → StateAt text ts (on_unit_end text t d b) us
    closes_unit {b = false} ps e f = state_done (λ n. unit_of_all ps e (f refl n))
    closes_unit {b = true} ps e f = state_failed

    end_at : (b : Bool) {ps : List Piece} → PlaceEnd text ts (t ∷ us) b ps → t.kind ≡ Mark CloseBrace → b ≡ true
        → PlaceEnd text ts us false ps
    end_at true p is e = end_closes text t is p
    end_at false p is e = absurd (cc)

    place_at : (b : Bool) {ps : List Piece} → Place text ts (t ∷ us) b ps → t.kind ≡ Mark CloseBrace → b ≡ true
        → PlaceEnd text ts us false ps
    place_at true p is e = place_closes text t is p
    place_at false p is e = absurd (cc)

    end_of_unit : (b : Bool) {ps : List Piece} → PlaceEnd text ts (t ∷ us) b ps → t.kind ≡ End → b ≡ false → us ≡ []
        → SpellsUnit text ts (unit_of_pieces ps)
    end_of_unit false {ps} p is e n =
        let P : List Token → Type 0 = λ x. PlaceEnd text ts (t ∷ x) false ps in end_ends text t is (subst P n p)
    end_of_unit true p is e n = absurd (cc)

    place_of_unit : (b : Bool) {ps : List Piece} → Place text ts (t ∷ us) b ps → t.kind ≡ End → b ≡ false → us ≡ []
        → SpellsUnit text ts (unit_of_pieces ps)
    place_of_unit false {ps} p is e n =
        let P : List Token → Type 0 = λ x. Place text ts (t ∷ x) false ps in place_ends text t is (subst P n p)
    place_of_unit true p is e n = absurd (cc)

    keeps_after_item : {d : Parsed} {b : Bool} (ps : List Piece) (k : TokenKind) → t.kind ≡ k
        → d ≡ added nothing_parsed ps
        → PlaceEnd text ts (t ∷ us) b ps → StateAt text ts (on_after_item text t d b k) us
    keeps_after_item ps Newline is e p = state_item ps e (place_behind text t (ap is_semi is) p)
    keeps_after_item ps (Mark Semicolon) is e p = state_item ps e (place_behind text t (ap is_semi is) p)
    keeps_after_item {b = b} ps (Mark CloseBrace) is e p = closes_object ps is e (end_at b p is)
    keeps_after_item {b = b} ps End is e p = closes_unit ps e (end_of_unit b p is)
    keeps_after_item ps _ is e p = state_failed

    -- ---- imports

    same_end : {vs : List Token} {b : Bool} {ps : List Piece} → PlaceEnd text ts vs b (ps ++ [])
        → PlaceEnd text ts vs b ps
    same_end {vs} {b} {ps} p = let P : List Piece → Type 0 = λ x. PlaceEnd text ts vs b x in subst P (append-nil ps) p

    keeps_other_import : {vs : List Token} {d : Parsed} {b all_of_one : Bool} (ps : List Piece) (n : Token) (x : Bool)
        → is_library (word text n) ≡ x → d ≡ added nothing_parsed ps → Place text ts vs b ps
        → IsImportText text vs us n all_of_one
        → StateAt text ts (on_other_import text t d b (record { word = word text n; at = n.from }) x) us
    keeps_other_import ps n true is e p r = state_after ps e (same_end (place_import text p (library n r is)))
    keeps_other_import ps n false is e p r = state_failed

    keeps_path_end : {vs : List Token} {d : Parsed} {b : Bool} (ps : List Piece) (n : Token) (x : Bool) (k :
        TokenKind)
        → t.kind ≡ k → is_library (word text n) ≡ x → d ≡ added nothing_parsed ps → Place text ts vs b ps
        → IsImportText text vs (t ∷ us) n false
        → StateAt text ts (on_path_end text t d b (record { word = word text n; at = n.from }) x k) us
    keeps_path_end ps n true k is lib e p r = keeps_after_item ps k is e (same_end (place_import text p (library n
        r lib)))
    keeps_path_end ps n false k is lib e p r = state_failed

    keeps_object_import : {vs : List Token} {d : Parsed} {b : Bool} (ps : List Piece) (n : Token) (x : Bool)
        → is_library (word text n) ≡ x → d ≡ added nothing_parsed ps → Place text ts vs b ps
        → IsImportText text vs us n true
        → StateAt text ts (on_object_import text t d b (record { word = word text n; at = n.from }) x) us
    keeps_object_import ps n true is e p r = state_after ps e (same_end (place_import text p (library n r is)))
    keeps_object_import ps n false is e p r =
        state_after _ (added_one nothing_parsed ps _ _ e) (place_import text p (of_object n r is))

    keeps_import_all : {vs : List Token} {d : Parsed} {b : Bool} (ps : List Piece) (n : Token) (one : Bool)
        → d ≡ added nothing_parsed ps → Place text ts vs b ps → IsImportText text vs us n one
        → StateAt text ts (on_import_all text t d b (record { word = word text n; at = n.from }) one) us
    keeps_import_all ps n true e p r = keeps_object_import ps n (is_library (word text n)) refl e p r
    keeps_import_all ps n false e p r = keeps_other_import ps n (is_library (word text n)) refl e p r

    keeps_import : {d : Parsed} {b : Bool} (ps : List Piece) (i : Token) (k : TokenKind) → t.kind ≡ k
        → d ≡ added nothing_parsed ps → Place text ts (i ∷ t ∷ us) b ps → i.kind ≡ Reserve Import
        → StateAt text ts (on_after_import text t d b k) us
    keeps_import ps i Name is e p is_i = state_path ps i t e p is_i (last_of_path t is)
    keeps_import ps i _ is e p is_i = state_failed

    path_import : {vs : List Token} {k : ℕ} (i n : Token) (j : TokenKind) → t.kind ≡ j → is_dot j ≡ false
        → i.kind ≡ Reserve Import → IsPath text (n ∷ vs) (t ∷ us) k → IsImportText text (i ∷ n ∷ vs) (t ∷ us) n false
    path_import i n j is undotted is_i r = import_path i n is_i r (ap is_dot is ∙ undotted)

    keeps_path : {vs : List Token} {d : Parsed} {b : Bool} {m : ℕ} (ps : List Piece) (i n : Token) (k : TokenKind)
        → t.kind ≡ k → d ≡ added nothing_parsed ps → Place text ts (i ∷ n ∷ vs) b ps → i.kind ≡ Reserve Import
        → IsPath text (n ∷ vs) (t ∷ us) m
        → StateAt text ts (on_path_name text t d b (record { word = word text n; at = n.from }) (is_one m) k) us
    keeps_path ps i n (Mark Dot) is e p is_i r = state_path_dot ps i n t e p is_i r is
    keeps_path ps i n k is e p is_i r =
        keeps_path_end ps n (is_library (word text n)) k is refl e p (path_import i n k is refl is_i r)

    longer_state : {vs : List Token} {d : Parsed} {b : Bool} {m : ℕ} (ps : List Piece) (i n dot : Token)
        → t.kind ≡ Name
        → d ≡ added nothing_parsed ps → Place text ts (i ∷ n ∷ vs) b ps → i.kind ≡ Reserve Import
        → IsPath text (n ∷ vs) (dot ∷ t ∷ us) m → dot.kind ≡ Mark Dot
        → StateAt text ts (between d b (after_path_name (record { word = word text n; at = n.from }) false)) us
    longer_state {d = d} {b = b} ps i n dot is e p is_i r is_d =
        let P : Bool → Type 0 = λ x. StateAt text ts (between d b (after_path_name (record {
          word = word text n;
          at
              = n.from;
        }) x)) us in
        subst P (longer_path text r) (state_path ps i n e p is_i (path_goes_on text dot t r is_d is))

    keeps_path_dot : {vs : List Token} {d : Parsed} {b : Bool} {m : ℕ} (ps : List Piece) (i n dot : Token)
        (k : TokenKind) → t.kind ≡ k → d ≡ added nothing_parsed ps → Place text ts (i ∷ n ∷ vs) b ps
        → i.kind ≡ Reserve Import → IsPath text (n ∷ vs) (dot ∷ t ∷ us) m → dot.kind ≡ Mark Dot
        → StateAt text ts (on_path_dot text t d b (record { word = word text n; at = n.from }) (is_one m) k) us
    keeps_path_dot ps i n dot Name is e p is_i r is_d = longer_state ps i n dot is e p is_i r is_d
    keeps_path_dot {m = m} ps i n dot Hole is e p is_i r is_d =
        keeps_import_all ps n (is_one m) e p (import_all i n dot t is_i r is_d is)
    keeps_path_dot ps i n dot (Mark OpenBrace) is e p is_i r is_d =
        state_want_chosen ps i n dot t e p is_i r is_d is choice_none
    keeps_path_dot ps i n dot _ is e p is_i r is_d = state_failed

    keeps_want_chosen : {vs ws : List Token} {d : Parsed} {b : Bool} {m : ℕ} (ps : List Piece) (i n dot o : Token)
        (k : TokenKind) → t.kind ≡ k → d ≡ added nothing_parsed ps → Place text ts (i ∷ n ∷ vs) b ps
        → i.kind ≡ Reserve Import → IsPath text (n ∷ vs) (dot ∷ o ∷ ws) m → dot.kind ≡ Mark Dot
        → o.kind ≡ Mark OpenBrace → FrontChoice ws (t ∷ us)
        → StateAt text ts (on_want_chosen text t d b (record { word = word text n; at = n.from }) k) us
    keeps_want_chosen ps i n dot o Name is e p is_i r is_d is_o f = state_chosen ps i n dot o t e p is_i r is_d
        is_o f is
    keeps_want_chosen ps i n dot o _ is e p is_i r is_d is_o f = state_failed

    keeps_chosen : {vs ws : List Token} {d : Parsed} {b : Bool} {m : ℕ} (ps : List Piece) (i n dot o c : Token)
        (k : TokenKind) → t.kind ≡ k → d ≡ added nothing_parsed ps → Place text ts (i ∷ n ∷ vs) b ps
        → i.kind ≡ Reserve Import → IsPath text (n ∷ vs) (dot ∷ o ∷ ws) m → dot.kind ≡ Mark Dot
        → o.kind ≡ Mark OpenBrace → FrontChoice ws (c ∷ t ∷ us) → c.kind ≡ Name
        → StateAt text ts (on_chosen text t d b (record { word = word text n; at = n.from }) k) us
    keeps_chosen ps i n dot o c (Mark Comma) is e p is_i r is_d is_o f is_c =
        state_want_chosen ps i n dot o e p is_i r is_d is_o (choice_more c t f is_c is)
    keeps_chosen ps i n dot o c (Mark CloseBrace) is e p is_i r is_d is_o f is_c =
        keeps_other_import ps n (is_library (word text n)) refl e p (import_some i n dot o is_i r is_d is_o
        (choice_behind f (last_chosen c t is_c is)))
    keeps_chosen ps i n dot o c _ is e p is_i r is_d is_o f is_c = state_failed

    -- ---- what begins a declaration

    keeps_class_word : {vs ws : List Token} {d : Parsed} {b : Bool} (m : Modifiers) (ps : List Piece) (x : Option
        Bool)
        → is_trait_word t.kind ≡ x → d ≡ added nothing_parsed ps → Place text ts vs b ps → FrontAnnotations text vs ws
        → FrontModified ws (t ∷ us) m → StateAt text ts (on_class_word text t d b m x) us
    keeps_class_word m ps (Some trait) is e p an f =
        let head = annotations_behind text an no_annotation in
        state_within ps e p (λ n. no_def_behind text head (front_begins_class f (trait_is_class t.kind trait is)))
        (at_want_class_name t head (modified_behind f no_modifier) is)
    keeps_class_word m ps None is e p an f = state_failed

    keeps_modified : {vs ws : List Token} {d : Parsed} {b : Bool} (m : Modifiers) (ps : List Piece)
        (x : Option Modifiers) → modified m t.kind ≡ x → d ≡ added nothing_parsed ps → Place text ts vs b ps
        → FrontAnnotations text vs ws → FrontModified ws (t ∷ us) m → StateAt text ts (on_modified text t d b m x
        t.kind) us
    keeps_modified m ps (Some n) is e p an f = state_modifiers ps e p an (modified_more t f is)
    keeps_modified m ps None is e p an f = keeps_class_word m ps (is_trait_word t.kind) refl e p an f

    keeps_modifiers : {vs ws : List Token} {d : Parsed} {b : Bool} (m : Modifiers) (ps : List Piece) (k : TokenKind)
        → t.kind ≡ k → d ≡ added nothing_parsed ps → Place text ts vs b ps → FrontAnnotations text vs ws
        → FrontModified ws (t ∷ us) m → StateAt text ts (on_modifiers text t d b m k) us
    keeps_modifiers {d = d} {b = b} m ps k is e p an f =
        let P : TokenKind → Type 0 = λ x. StateAt text ts (on_modifiers text t d b m x) us in
        subst P is (keeps_modified m ps (modified m t.kind) refl e p an f)

    keeps_def : {vs : List Token} {d : Parsed} {b : Bool} (ps : List Piece) → t.kind ≡ Reserve Def
        → d ≡ added nothing_parsed ps → Place text ts vs b ps → FrontAnnotations text vs (t ∷ us)
        → StateAt text ts (on_def text t d b) us
    keeps_def {b = true} ps is e p an =
        state_within ps e p (λ n. absurd (cc)) (at_want_def_name t (annotations_behind text an no_annotation) is)
    keeps_def {b = false} ps is e p an = state_failed

    keeps_declaration : {vs : List Token} {d : Parsed} {b : Bool} (ps : List Piece) (k : TokenKind) → t.kind ≡ k
        → d ≡ added nothing_parsed ps → Place text ts vs b ps → FrontAnnotations text vs (t ∷ us)
        → StateAt text ts (on_declaration text t d b k) us
    keeps_declaration ps (Op At) is e p an = state_at ps t e p an is
    keeps_declaration ps (Reserve Def) is e p an = keeps_def ps is e p an
    keeps_declaration ps (Reserve Case) is e p an = state_case ps t e p an is
    keeps_declaration ps k is e p an = keeps_modifiers unmodified ps k is e p an modified_none

    keeps_case : {vs : List Token} {d : Parsed} {b : Bool} (ps : List Piece) (c : Token) (k : TokenKind) → t.kind ≡ k
        → d ≡ added nothing_parsed ps → Place text ts vs b ps → FrontAnnotations text vs (c ∷ t ∷ us)
        → c.kind ≡ Reserve Case → StateAt text ts (on_after_case text t d b k) us
    keeps_case ps c (Reserve Object) is e p an is_c =
        let head = annotations_behind text an no_annotation in
        state_within ps e p (λ n. no_def_behind text head (ap is_class_kind is_c)) (at_want_object_name c t head
        is_c is)
    keeps_case ps c k is e p an is_c =
        keeps_modifiers (record { sealed = false; case = true }) ps k is e p an (modified_more c modified_none (ap
        (modified unmodified) is_c))

    keeps_annotation_name : {vs : List Token} {d : Parsed} {b : Bool} (ps : List Piece) (a : Token) (x : Bool)
        → is_known_annotation (word text t) ≡ x → t.kind ≡ Name → d ≡ added nothing_parsed ps → Place text ts vs b ps
        → FrontAnnotations text vs (a ∷ t ∷ us) → a.kind ≡ Op At → StateAt text ts (on_annotation_name text t d b
        x) us
    keeps_annotation_name ps a true known is e p an is_a = state_annotation ps a t e p an is_a is known
    keeps_annotation_name ps a false known is e p an is_a = state_failed

    keeps_at : {vs : List Token} {d : Parsed} {b : Bool} (ps : List Piece) (a : Token) (k : TokenKind) → t.kind ≡ k
        → d ≡ added nothing_parsed ps → Place text ts vs b ps → FrontAnnotations text vs (a ∷ t ∷ us) → a.kind ≡ Op At
        → StateAt text ts (on_after_at text t d b k) us
    keeps_at ps a Name is e p an is_a = keeps_annotation_name ps a (is_known_annotation (word text t)) refl is e p
        an is_a
    keeps_at ps a _ is e p an is_a = state_failed

    keeps_annotation : {vs : List Token} {d : Parsed} {b : Bool} (ps : List Piece) (a n : Token) (k : TokenKind)
        → t.kind ≡ k → d ≡ added nothing_parsed ps → Place text ts vs b ps → FrontAnnotations text vs (a ∷ n ∷ t ∷ us)
        → a.kind ≡ Op At → n.kind ≡ Name → is_known_annotation (word text n) ≡ true
        → StateAt text ts (on_annotation text t d b k) us
    keeps_annotation ps a n Newline is e p an is_a is_n known =
        state_annotation_line ps e p (annotations_more a n an is_a is_n known (one_newline t is))
    keeps_annotation ps a n k is e p an is_a is_n known =
        keeps_declaration ps k is e p (annotations_more a n an is_a is_n known no_newline)

    -- ---- items

    keeps_object_word : {d : Parsed} {b : Bool} (ps : List Piece) → t.kind ≡ Reserve Object
        → d ≡ added nothing_parsed ps
        → Place text ts (t ∷ us) b ps → StateAt text ts (on_object_word text t d b) us
    keeps_object_word ps is e (place_outer o) = state_object ps t e o is
    keeps_object_word ps is e (place_inner i eq) = state_failed

    keeps_item : {d : Parsed} {b : Bool} (ps : List Piece) (k : TokenKind) → t.kind ≡ k → d ≡ added nothing_parsed ps
        → Place text ts (t ∷ us) b ps → StateAt text ts (on_item text t d b k) us
    keeps_item ps Newline is e p = state_item ps e (place_goes_on text t (ap is_semi is) p)
    keeps_item ps (Mark Semicolon) is e p = state_item ps e (place_goes_on text t (ap is_semi is) p)
    keeps_item {b = b} ps (Mark CloseBrace) is e p = closes_object ps is e (place_at b p is)
    keeps_item {b = b} ps End is e p = closes_unit ps e (place_of_unit b p is)
    keeps_item ps (Reserve Import) is e p = state_import ps t e p is
    keeps_item ps (Reserve Object) is e p = keeps_object_word ps is e p
    keeps_item ps k is e p = keeps_declaration ps k is e p annotations_none

    keeps_start : (k : TokenKind) → t.kind ≡ k → StartAt text ts (t ∷ us)
        → StateAt text ts (on_start text t nothing_parsed false k) us
    keeps_start Newline is st = state_start (start_goes_on text t (ap is_semi is) st)
    keeps_start (Mark Semicolon) is st = state_start (start_goes_on text t (ap is_semi is) st)
    keeps_start (Reserve Package) is st = state_package t st is
    keeps_start k is st = keeps_item [] k is refl (place_outer (outer_start st))

    keeps_package : (p : Token) (k : TokenKind) → t.kind ≡ k → StartAt text ts (p ∷ t ∷ us) → p.kind ≡ Reserve Package
        → StateAt text ts (on_after_package text t nothing_parsed false k) us
    keeps_package p Name is st is_p = state_package_name p st is_p (last_of_path t is)
    keeps_package p _ is st is_p = state_failed

    keeps_package_dot : {vs : List Token} {m : ℕ} (p dot : Token) (k : TokenKind) → t.kind ≡ k
        → StartAt text ts (p ∷ vs) → p.kind ≡ Reserve Package → IsPath text vs (dot ∷ t ∷ us) m → dot.kind ≡ Mark Dot
        → StateAt text ts (on_after_package text t nothing_parsed false k) us
    keeps_package_dot p dot Name is st is_p r is_d = state_package_name p st is_p (path_goes_on text dot t r is_d is)
    keeps_package_dot p dot _ is st is_p r is_d = state_failed

    keeps_package_name : {vs : List Token} {m : ℕ} (p : Token) (k : TokenKind) → t.kind ≡ k → StartAt text ts (p ∷ vs)
        → p.kind ≡ Reserve Package → IsPath text vs (t ∷ us) m
        → StateAt text ts (on_package_name text t nothing_parsed false k) us
    keeps_package_name p (Mark Dot) is st is_p r = state_package_dot p t st is_p r is
    keeps_package_name p Newline is st is_p r = state_start (start_with_package text p st is_p r (semis t (ap
        is_semi is) no_semi))
    keeps_package_name p (Mark Semicolon) is st is_p r =
        state_start (start_with_package text p st is_p r (semis t (ap is_semi is) no_semi))
    keeps_package_name p _ is st is_p r = state_failed

    keeps_object : {d : Parsed} (ps : List Piece) (b : Token) (k : TokenKind) → t.kind ≡ k
        → d ≡ added nothing_parsed ps
        → Outer text ts (b ∷ t ∷ us) ps → b.kind ≡ Reserve Object → StateAt text ts (on_after_object text t d false
        k) us
    keeps_object ps b Name is e o is_b = state_object_title ps b t (added_one nothing_parsed ps _ _ e) o is_b is
    keeps_object ps b _ is e o is_b = state_failed

    keeps_object_line : {vs : List Token} {d : Parsed} (ps : List Piece) (b n : Token) (k : TokenKind) → t.kind ≡ k
        → d ≡ added nothing_parsed (ps ++ object_piece (word text n) ∷ []) → Outer text ts (b ∷ n ∷ vs) ps
        → b.kind ≡ Reserve Object → n.kind ≡ Name → IsBreak vs (t ∷ us)
        → StateAt text ts (on_object_line text t d k) us
    keeps_object_line ps b n (Mark OpenBrace) is e o is_b is_n br =
        state_item _ e (place_inner (inner_start (object_at b n t o is_b is_n br is) no_semi) refl)
    keeps_object_line ps b n _ is e o is_b is_n br = state_failed

    keeps_object_title : {d : Parsed} (ps : List Piece) (b n : Token) (k : TokenKind) → t.kind ≡ k
        → d ≡ added nothing_parsed (ps ++ object_piece (word text n) ∷ []) → Outer text ts (b ∷ n ∷ t ∷ us) ps
        → b.kind ≡ Reserve Object → n.kind ≡ Name → StateAt text ts (on_object_title text t d k) us
    keeps_object_title ps b n Newline is e o is_b is_n =
        let P : List Token → Type 0 = λ x. IsBreak (t ∷ us) x in
        state_object_line ps b n e o is_b is_n (λ ws u eq. subst P eq (one_newline t is))
    keeps_object_title ps b n k is e o is_b is_n = keeps_object_line ps b n k is e o is_b is_n no_newline

    -- ---- one token

    keeps_move : {vs : List Token} {d : Parsed} {b : Bool} (ps : List Piece) (m : Move) → d ≡ added nothing_parsed ps
        → Place text ts vs b ps → (b ≡ false → NoDef text vs) → Moved text vs t us m
        → StateAt text ts (moved text t d b m) us
    keeps_move ps (go s m) e p none stands = state_within ps e p none stands
    keeps_move ps (stop f) e p none stands = state_failed
    keeps_move ps (ends x) e p none decl =
        keeps_after_item _ t.kind refl (added_one nothing_parsed ps (decl_piece x) _ e) (place_declares text p none
        decl)

    pub keeps_step : (st : State) → StateAt text ts st (t ∷ us) → StateAt text ts (step text t st) us
    keeps_step st (state_start p) = keeps_start t.kind refl p
    keeps_step st (state_item ps e p) = keeps_item ps t.kind refl e p
    keeps_step st (state_after ps e p) = keeps_after_item ps t.kind refl e p
    keeps_step st (state_package p s is_p) = keeps_package p t.kind refl s is_p
    keeps_step st (state_package_name p s is_p r) = keeps_package_name p t.kind refl s is_p r
    keeps_step st (state_package_dot p dot s is_p r is_d) = keeps_package_dot p dot t.kind refl s is_p r is_d
    keeps_step st (state_import ps i e p is_i) = keeps_import ps i t.kind refl e p is_i
    keeps_step st (state_path ps i n e p is_i r) = keeps_path ps i n t.kind refl e p is_i r
    keeps_step st (state_path_dot ps i n dot e p is_i r is_d) = keeps_path_dot ps i n dot t.kind refl e p is_i r is_d
    keeps_step st (state_want_chosen ps i n dot o e p is_i r is_d is_o f) =
        keeps_want_chosen ps i n dot o t.kind refl e p is_i r is_d is_o f
    keeps_step st (state_chosen ps i n dot o m e p is_i r is_d is_o f is_m) =
        keeps_chosen ps i n dot o m t.kind refl e p is_i r is_d is_o f is_m
    keeps_step st (state_object ps b e o is_b) = keeps_object ps b t.kind refl e o is_b
    keeps_step st (state_object_title ps b n e o is_b is_n) = keeps_object_title ps b n t.kind refl e o is_b is_n
    keeps_step st (state_object_line ps b n e o is_b is_n br) =
        keeps_object_line ps b n t.kind refl e o is_b is_n (br us t refl)
    keeps_step st (state_at ps a e p an is_a) = keeps_at ps a t.kind refl e p an is_a
    keeps_step st (state_annotation ps a n e p an is_a is_n known) = keeps_annotation ps a n t.kind refl e p an
        is_a is_n known
    keeps_step st (state_annotation_line ps e p an) = keeps_declaration ps t.kind refl e p an
    keeps_step st (state_case ps c e p an is_c) = keeps_case ps c t.kind refl e p an is_c
    keeps_step st (state_modifiers {m = m} ps e p an f) = keeps_modifiers m ps t.kind refl e p an f
    keeps_step st (state_within {us = vs} {s = s} {m = m} ps e p none stands) =
        keeps_move ps (on_mode text t s m t.kind) e p none (keeps_mode text t vs us s m stands)
    keeps_step st state_failed = state_failed
    keeps_step st (state_done f) = state_failed

  keeps_run : (ts us : List Token) (st : State) → StateAt text ts st us → StateAt text ts (run text us st) []
  keeps_run ts [] st p = p
  keeps_run ts (t ∷ us) st p = keeps_run ts us (step text t st) (keeps_step t ts us st p)

  done_spells : {ts : List Token} {u : UnitTree} → StateAt text ts (done u) [] → SpellsUnit text ts u
  done_spells (state_done f) = f refl

  -- what the automaton answers is spelled
  pub sound : (ts : List Token) (u : UnitTree) → run text ts start ≡ done u → SpellsUnit text ts u
  sound ts u is =
      let P : State → Type 0 = λ st. StateAt text ts st [] in
      done_spells (subst P is (keeps_run ts ts start (state_start (start_at no_semi packages_none))))

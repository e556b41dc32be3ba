-- What each state of the automaton between declarations says of the tokens that were read.
use Rattle.pp_grammar.specs.Frames.{Fault, Frame, Mode, Parsed, State, after_annotation, after_annotation_line}
use Rattle.pp_grammar.specs.Frames.{after_at, after_case, after_chosen, after_import, after_item, after_modifiers}
use Rattle.pp_grammar.specs.Frames.{after_object, after_object_line, after_object_title, after_package}
use Rattle.pp_grammar.specs.Frames.{after_package_name, after_path_dot, after_path_name, at_item, at_start, between}
use Rattle.pp_grammar.specs.Frames.{done, failed, want_chosen, within}
use Rattle.pp_grammar.specs.Joining.{nothing_parsed}
use Rattle.pp_grammar.specs.Types.{IsBreak, no_newline, one_newline}
use Rattle.pp_grammar.specs.Units.{IsAnnotations, IsPath, Modifiers, Piece, SpellsUnit, def_of, is_one, modified}
use Rattle.pp_grammar.specs.Units.{no_annotation, object_piece, one_annotation}
use Rattle.pp_grammar.specs.Words.{is_known_annotation, is_trait_word, word}
use Rattle.pp_grammar_sound.proofs.Modes.{Stands}
use Rattle.pp_grammar_sound.proofs.UnitFronts.{FrontAnnotations, FrontChoice, FrontModified, NoDef, Outer, Place}
use Rattle.pp_grammar_sound.proofs.UnitFronts.{PlaceEnd, StartAt, added, modified_more, modified_none}
use Rattle.pp_tokens.specs.declared.token.Bracket.TheVariants.{Dot, OpenBrace}
use Rattle.pp_tokens.specs.declared.token.Operator.TheVariants.{At}
use Rattle.pp_tokens.specs.declared.token.Reserved.TheVariants.{Abstract, Case, Class, Def, Final, Import, Object}
use Rattle.pp_tokens.specs.declared.token.Reserved.TheVariants.{Package, Sealed, Trait}
use Rattle.pp_tokens.specs.declared.token.Token.{Token}
use Rattle.pp_tokens.specs.declared.token.TokenKind.{TokenKind}
use Rattle.pp_tokens.specs.declared.token.TokenKind.TheVariants.{Mark, Name, Newline, Op, Word as Reserve}
use Rattle.pp_tree.specs.Plain.{UnitTree, Word}
use Rattle.std.proofs.Common.{Bool, List, Some, [], ap, false, refl, true, ℕ, ◌++◌, ◌∷◌, ◌≡◌}

-- a word that begins a class
abbrev pub is_class_kind : TokenKind → Bool
is_class_kind (Reserve Sealed) = true
is_class_kind (Reserve Abstract) = true
is_class_kind (Reserve Final) = true
is_class_kind (Reserve Case) = true
is_class_kind (Reserve Class) = true
is_class_kind (Reserve Trait) = true
is_class_kind _ = false

abbrev pub begins_class_word : List Token → Bool
begins_class_word [] = false
begins_class_word (t ∷ ts) = is_class_kind t.kind

pub modifier_is_class : (m n : Modifiers) (k : TokenKind) → modified m k ≡ Some n → is_class_kind k ≡ true
modifier_is_class m n (Reserve Sealed) is = refl
modifier_is_class m n (Reserve Abstract) is = refl
modifier_is_class m n (Reserve Final) is = refl
modifier_is_class m n (Reserve Case) is = refl
modifier_is_class m n _ is = absurd (cc)

pub trait_is_class : (k : TokenKind) (b : Bool) → is_trait_word k ≡ Some b → is_class_kind k ≡ true
trait_is_class (Reserve Class) b is = refl
trait_is_class (Reserve Trait) b is = refl
trait_is_class _ b is = absurd (cc)

pub front_begins_class : {ts us : List Token} {m : Modifiers} → FrontModified ts us m → begins_class_word us ≡ true
    → begins_class_word ts ≡ true
front_begins_class modified_none is = is
front_begins_class (modified_more {m = m} {n = n} t f e) is = front_begins_class f (modifier_is_class m n t.kind e)

module _ (text : Word) where
  pub no_class_newline : {ts us : List Token} (t : Token) → t.kind ≡ Newline → IsAnnotations text (t ∷ ts) us
      → begins_class_word us ≡ true → ⊥
  no_class_newline t is no_annotation b = let e = ap is_class_kind is in cc
  no_class_newline t is (one_annotation a n is_a is_n k br r) b = cc

  pub no_def_newline : {ts us : List Token} (t d : Token) → t.kind ≡ Newline → IsAnnotations text (t ∷ ts) (d ∷ us)
      → d.kind ≡ Reserve Def → ⊥
  no_def_newline t d is no_annotation is_d = cc
  no_def_newline t d is (one_annotation a n is_a is_n k br r) is_d = cc

  -- behind annotations stands either `def` or a word that begins a class
  pub not_both : {ts us vs : List Token} (d : Token) → IsAnnotations text ts us → begins_class_word us ≡ true
      → IsAnnotations text ts (d ∷ vs) → d.kind ≡ Reserve Def → ⊥
  not_both d no_annotation is no_annotation is_d = let e = ap is_class_kind is_d in cc
  not_both d no_annotation is (one_annotation a n is_a is_n k br r) is_d = let e = ap is_class_kind is_a in cc
  not_both d (one_annotation a n is_a is_n k br r) is no_annotation is_d = cc
  not_both d (one_annotation a n is_a is_n k no_newline r) is (one_annotation b m is_b is_m j no_newline q) is_d =
      not_both d r is q is_d
  not_both d (one_annotation a n is_a is_n k no_newline r) is (one_annotation b m is_b is_m j (one_newline t is_t)
      q) is_d =
      no_class_newline t is_t r is
  not_both d (one_annotation a n is_a is_n k (one_newline t is_t) r) is (one_annotation b m is_b is_m j no_newline
      q) is_d =
      no_def_newline t d is_t q is_d
  not_both d (one_annotation a n is_a is_n k (one_newline t is_t) r) is (one_annotation b m is_b is_m j
      (one_newline u is_u) q) is_d =
      not_both d r is q is_d

  pub no_def_behind : {ts us : List Token} → IsAnnotations text ts us → begins_class_word us ≡ true → NoDef text ts
  no_def_behind an is vs x (def_of d n c q an2 is_d is_n tp pl is_c ty is_q body) = not_both d an is an2 is_d

  -- what a state says: the tokens ts are all, and us are left
  pub data StateAt : List Token → State → List Token → Type 0 where
    state_start : {ts us : List Token} → StartAt text ts us → StateAt ts (between nothing_parsed false at_start) us
    state_item : {ts us : List Token} {d : Parsed} {b : Bool} (ps : List Piece) → d ≡ added nothing_parsed ps
        → Place text ts us b ps → StateAt ts (between d b at_item) us
    state_after : {ts us : List Token} {d : Parsed} {b : Bool} (ps : List Piece) → d ≡ added nothing_parsed ps
        → PlaceEnd text ts us b ps → StateAt ts (between d b after_item) us
    state_package : {ts us : List Token} (p : Token) → StartAt text ts (p ∷ us) → p.kind ≡ Reserve Package
        → StateAt ts (between nothing_parsed false after_package) us
    state_package_name : {ts us vs : List Token} {k : ℕ} (p : Token) → StartAt text ts (p ∷ us)
        → p.kind ≡ Reserve Package → IsPath text us vs k
        → StateAt ts (between nothing_parsed false after_package_name) vs
    state_package_dot : {ts us vs : List Token} {k : ℕ} (p dot : Token) → StartAt text ts (p ∷ us)
        → p.kind ≡ Reserve Package → IsPath text us (dot ∷ vs) k → dot.kind ≡ Mark Dot
        → StateAt ts (between nothing_parsed false after_package) vs
    state_import : {ts us : List Token} {d : Parsed} {b : Bool} (ps : List Piece) (i : Token)
        → d ≡ added nothing_parsed ps → Place text ts (i ∷ us) b ps → i.kind ≡ Reserve Import
        → StateAt ts (between d b after_import) us
    state_path : {ts us vs : List Token} {d : Parsed} {b : Bool} {k : ℕ} (ps : List Piece) (i n : Token)
        → d ≡ added nothing_parsed ps → Place text ts (i ∷ n ∷ us) b ps → i.kind ≡ Reserve Import
        → IsPath text (n ∷ us) vs k
        → StateAt ts (between d b (after_path_name (record { word = word text n; at = n.from }) (is_one k))) vs
    state_path_dot : {ts us vs : List Token} {d : Parsed} {b : Bool} {k : ℕ} (ps : List Piece) (i n dot : Token)
        → d ≡ added nothing_parsed ps → Place text ts (i ∷ n ∷ us) b ps → i.kind ≡ Reserve Import
        → IsPath text (n ∷ us) (dot ∷ vs) k → dot.kind ≡ Mark Dot
        → StateAt ts (between d b (after_path_dot (record { word = word text n; at = n.from }) (is_one k))) vs
    state_want_chosen : {ts us vs ws : List Token} {d : Parsed} {b : Bool} {k : ℕ} (ps : List Piece) (i n dot o :
        Token)
        → d ≡ added nothing_parsed ps → Place text ts (i ∷ n ∷ us) b ps → i.kind ≡ Reserve Import
        → IsPath text (n ∷ us) (dot ∷ o ∷ vs) k → dot.kind ≡ Mark Dot → o.kind ≡ Mark OpenBrace → FrontChoice vs ws
        → StateAt ts (between d b (want_chosen (record { word = word text n; at = n.from }))) ws
    state_chosen : {ts us vs ws : List Token} {d : Parsed} {b : Bool} {k : ℕ} (ps : List Piece) (i n dot o m : Token)
        → d ≡ added nothing_parsed ps → Place text ts (i ∷ n ∷ us) b ps → i.kind ≡ Reserve Import
        → IsPath text (n ∷ us) (dot ∷ o ∷ vs) k → dot.kind ≡ Mark Dot → o.kind ≡ Mark OpenBrace
        → FrontChoice vs (m ∷ ws) → m.kind ≡ Name
        → StateAt ts (between d b (after_chosen (record { word = word text n; at = n.from }))) ws
    state_object : {ts us : List Token} {d : Parsed} (ps : List Piece) (b : Token) → d ≡ added nothing_parsed ps
        → Outer text ts (b ∷ us) ps → b.kind ≡ Reserve Object → StateAt ts (between d false after_object) us
    state_object_title : {ts us : List Token} {d : Parsed} (ps : List Piece) (b n : Token)
        → d ≡ added nothing_parsed (ps ++ object_piece (word text n) ∷ []) → Outer text ts (b ∷ n ∷ us) ps
        → b.kind ≡ Reserve Object → n.kind ≡ Name → StateAt ts (between d false after_object_title) us
    state_object_line : {ts us vs : List Token} {d : Parsed} (ps : List Piece) (b n : Token)
        → d ≡ added nothing_parsed (ps ++ object_piece (word text n) ∷ []) → Outer text ts (b ∷ n ∷ us) ps
        → b.kind ≡ Reserve Object → n.kind ≡ Name → ((ws : List Token) (t : Token) → vs ≡ t ∷ ws
        → IsBreak us (t ∷ ws))
        → StateAt ts (between d false after_object_line) vs
    state_at : {ts us vs : List Token} {d : Parsed} {b : Bool} (ps : List Piece) (a : Token)
        → d ≡ added nothing_parsed ps → Place text ts us b ps → FrontAnnotations text us (a ∷ vs) → a.kind ≡ Op At
        → StateAt ts (between d b after_at) vs
    state_annotation : {ts us vs : List Token} {d : Parsed} {b : Bool} (ps : List Piece) (a n : Token)
        → d ≡ added nothing_parsed ps → Place text ts us b ps → FrontAnnotations text us (a ∷ n ∷ vs)
        → a.kind ≡ Op At → n.kind ≡ Name → is_known_annotation (word text n) ≡ true
        → StateAt ts (between d b after_annotation) vs
    state_annotation_line : {ts us vs : List Token} {d : Parsed} {b : Bool} (ps : List Piece)
        → d ≡ added nothing_parsed ps → Place text ts us b ps → FrontAnnotations text us vs
        → StateAt ts (between d b after_annotation_line) vs
    state_case : {ts us vs : List Token} {d : Parsed} {b : Bool} (ps : List Piece) (c : Token)
        → d ≡ added nothing_parsed ps → Place text ts us b ps → FrontAnnotations text us (c ∷ vs)
        → c.kind ≡ Reserve Case → StateAt ts (between d b after_case) vs
    state_modifiers : {ts us vs ws : List Token} {d : Parsed} {b : Bool} {m : Modifiers} (ps : List Piece)
        → d ≡ added nothing_parsed ps → Place text ts us b ps → FrontAnnotations text us vs → FrontModified vs ws m
        → StateAt ts (between d b (after_modifiers m.sealed m.case)) ws
    state_within : {ts us vs : List Token} {d : Parsed} {b : Bool} {s : List Frame} {m : Mode} (ps : List Piece)
        → d ≡ added nothing_parsed ps → Place text ts us b ps → (b ≡ false → NoDef text us) → Stands text us s m vs
        → StateAt ts (within d b s m) vs
    state_failed : {ts us : List Token} {f : Fault} → StateAt ts (failed f) us
    state_done : {ts us : List Token} {u : UnitTree} → (us ≡ [] → SpellsUnit text ts u) → StateAt ts (done u) us

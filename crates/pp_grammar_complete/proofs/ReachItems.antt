-- The automaton reads each class and each import that is spelled.
use Rattle.pp_grammar.specs.Automaton.{on_item_mode, run}
use Rattle.pp_grammar.specs.Frames.{ItemMode, Parsed, Placed, State, after_annotation, after_annotation_line, after_at}
use Rattle.pp_grammar.specs.Frames.{after_case, after_chosen, after_import, after_item, after_modifiers, after_path_dot}
use Rattle.pp_grammar.specs.Frames.{after_path_name, at_item, between, of_class, want_chosen, want_name, within}
use Rattle.pp_grammar.specs.Joining.{with_decl, with_import}
use Rattle.pp_grammar.specs.StepItems.{on_after_case, on_after_item, on_annotation, on_annotation_name, on_class_word}
use Rattle.pp_grammar.specs.StepItems.{on_declaration, on_import_all, on_item, on_modified, on_modifiers}
use Rattle.pp_grammar.specs.StepItems.{on_object_import, on_other_import, on_path_end, on_path_name}
use Rattle.pp_grammar.specs.Types.{IsBreak, IsGap, IsSemis, no_newline, no_semi, one_newline, one_semi, semis}
use Rattle.pp_grammar.specs.Units.{IsAnnotations, IsChoice, IsClass, IsImport, IsImportText, IsModified, IsPath}
use Rattle.pp_grammar.specs.Units.{Modifiers, Piece, case_object, class_of, import_all, import_path, import_some}
use Rattle.pp_grammar.specs.Units.{is_one, last_chosen, last_of_path, library, modified, more_of_path, no_annotation}
use Rattle.pp_grammar.specs.Units.{no_modifier, of_object, one_annotation, one_modifier, one_more_chosen, unmodified}
use Rattle.pp_grammar.specs.Words.{begins_dot, is_dot, is_library, is_semi, is_trait_word, word}
use Rattle.pp_grammar_complete.proofs.ExprSteps.{behind_first}
use Rattle.pp_grammar_complete.proofs.ReachHeads.{ItemEnds, class_read, object_read}
use Rattle.pp_grammar_sound.proofs.UnitFronts.{added, longer_path}
use Rattle.pp_tokens.specs.declared.token.Bracket.TheVariants.{Dot, Semicolon}
use Rattle.pp_tokens.specs.declared.token.Operator.TheVariants.{At}
use Rattle.pp_tokens.specs.declared.token.Reserved.TheVariants.{Abstract, Case, Class, Def, Final, Import, Object}
use Rattle.pp_tokens.specs.declared.token.Reserved.TheVariants.{Sealed, Trait}
use Rattle.pp_tokens.specs.declared.token.Token.{Token}
use Rattle.pp_tokens.specs.declared.token.TokenKind.{TokenKind}
use Rattle.pp_tokens.specs.declared.token.TokenKind.TheVariants.{Mark, Name, Newline, Op, Word as Reserve}
use Rattle.pp_tree.specs.Plain.{DeclTree, Word}
use Rattle.std.proofs.Common.{Bool, List, None, Option, Some, [], ap, cond, false, inl, inr, refl, sym, true, ℕ, ◌∙◌}
use Rattle.std.proofs.Common.{◌∷◌, ◌≡◌, ◌⊎◌}

-- the words that begin a class, but for `case`
abbrev pub declares_kind : TokenKind → Bool
declares_kind (Reserve Sealed) = true
declares_kind (Reserve Abstract) = true
declares_kind (Reserve Final) = true
declares_kind (Reserve Case) = true
declares_kind (Reserve Class) = true
declares_kind (Reserve Trait) = true
declares_kind (Reserve Def) = true
declares_kind (Op At) = true
declares_kind _ = false

abbrev pub Declaring : List Token → Type 0
Declaring [] = ⊥
Declaring (t ∷ ts) = declares_kind t.kind ≡ true

pub modifier_declares : (m n : Modifiers) (k : TokenKind) → modified m k ≡ Some n → declares_kind k ≡ true
modifier_declares m n (Reserve Sealed) is = refl
modifier_declares m n (Reserve Abstract) is = refl
modifier_declares m n (Reserve Final) is = refl
modifier_declares m n (Reserve Case) is = refl
modifier_declares m n _ is = absurd (cc)

pub trait_declares : (k : TokenKind) (x : Bool) → is_trait_word k ≡ Some x → declares_kind k ≡ true
trait_declares (Reserve Class) x is = refl
trait_declares (Reserve Trait) x is = refl
trait_declares _ x is = absurd (cc)

pub modified_declares : {ts us : List Token} {m n : Modifiers} → IsModified ts us m n → Declaring us → Declaring ts
modified_declares no_modifier e = e
modified_declares (one_modifier {m = m} {n = n} t is r) e = modifier_declares m n t.kind is

-- a token that isn't `object`
abbrev pub is_object : TokenKind → Bool
is_object (Reserve Object) = true
is_object _ = false

pub modifier_no_object : (m n : Modifiers) (k : TokenKind) → modified m k ≡ Some n → is_object k ≡ false
modifier_no_object m n (Reserve Object) is = absurd (cc)
modifier_no_object m n _ is = refl

pub trait_no_object : (k : TokenKind) (x : Bool) → is_trait_word k ≡ Some x → is_object k ≡ false
trait_no_object (Reserve Object) x is = absurd (cc)
trait_no_object _ x is = refl

abbrev pub NoObject : List Token → Type 0
NoObject [] = ⊥
NoObject (t ∷ ts) = is_object t.kind ≡ false

pub modified_no_object : {ts us : List Token} {m n : Modifiers} → IsModified ts us m n → NoObject us → NoObject ts
modified_no_object no_modifier e = e
modified_no_object (one_modifier {m = m} {n = n} t is r) e = modifier_no_object m n t.kind is

pub trait_no_modifier : (m : Modifiers) (k : TokenKind) (x : Bool) → is_trait_word k ≡ Some x → modified m k ≡ None
trait_no_modifier m (Reserve Class) x is = refl
trait_no_modifier m (Reserve Trait) x is = refl
trait_no_modifier m _ x is = absurd (cc)

module _ (text : Word) where
  module _ (d : Parsed) (b : Bool) where
    -- the run between declarations
    abbrev pub Between : List Token → ItemMode → State
    Between ts m = run text ts (between d b m)

    abbrev pub Item : Token → List Token → State → State
    Item t ts st = run text ts st

    pub item_step : (t : Token) (ts : List Token) (m : ItemMode) (k : TokenKind) → t.kind ≡ k
        → Between (t ∷ ts) m ≡ run text ts (on_item_mode text t d b m k)
    item_step t ts m k is = ap (λ x. run text ts (on_item_mode text t d b m x)) is

    pub to_state : (ts : List Token) (s r : State) → s ≡ r → run text ts s ≡ run text ts r
    to_state ts s r is = ap (λ (x : State). run text ts x) is

    -- ---- semis

    pub item_semi : (t : Token) (k : TokenKind) → is_semi k ≡ true → on_item text t d b k ≡ between d b at_item
    item_semi t Newline is = refl
    item_semi t (Mark Semicolon) is = refl
    item_semi t _ is = absurd (cc)

    pub item_gap : {ts us : List Token} → IsGap ts us → Between ts at_item ≡ Between us at_item
    item_gap no_semi = refl
    item_gap (one_semi {ts = ts} t is g) = to_state ts _ _ (item_semi t t.kind is) ∙ item_gap g

    pub after_semi : (t : Token) (k : TokenKind) → is_semi k ≡ true → on_after_item text t d b k ≡ between d b at_item
    after_semi t Newline is = refl
    after_semi t (Mark Semicolon) is = refl
    after_semi t _ is = absurd (cc)

    pub item_semis : {ts us : List Token} → IsSemis ts us → Between ts after_item ≡ Between us at_item
    item_semis (semis {ts = ts} t is g) = to_state ts _ _ (after_semi t t.kind is) ∙ item_gap g

    -- ---- declarations

    -- where a declaration begins
    abbrev pub Decl : List Token → State
    Decl [] = Between [] at_item
    Decl (t ∷ ts) = run text ts (on_declaration text t d b t.kind)

    pub declares_step : (t : Token) (k : TokenKind) → declares_kind k ≡ true
        → on_item text t d b k ≡ on_declaration text t d b k
    declares_step t (Reserve Sealed) is = refl
    declares_step t (Reserve Abstract) is = refl
    declares_step t (Reserve Final) is = refl
    declares_step t (Reserve Case) is = refl
    declares_step t (Reserve Class) is = refl
    declares_step t (Reserve Trait) is = refl
    declares_step t (Reserve Def) is = refl
    declares_step t (Op At) is = refl
    declares_step t _ is = absurd (cc)

    pub item_declares : (ts : List Token) → Declaring ts → Between ts at_item ≡ Decl ts
    item_declares [] e = absurd e
    item_declares (t ∷ ts) e = to_state ts _ _ (declares_step t t.kind e)

    pub no_line_by : (t : Token) (k : TokenKind) → declares_kind k ≡ true
        → on_annotation text t d b k ≡ on_declaration text t d b k
    no_line_by t Newline is = absurd (cc)
    no_line_by t _ is = refl

    pub no_line : (ts : List Token) → Declaring ts → Between ts after_annotation ≡ Decl ts
    no_line [] e = absurd e
    no_line (t ∷ ts) e = to_state ts _ _ (no_line_by t t.kind e)

    pub a_line : (ts : List Token) → Declaring ts → Between ts after_annotation_line ≡ Decl ts
    a_line [] e = absurd e
    a_line (t ∷ ts) e = refl

    pub annotations_declare : {ts us : List Token} → IsAnnotations text ts us → Declaring us → Declaring ts
    annotations_declare no_annotation e = e
    annotations_declare (one_annotation a n is_a is_n k br r) e = ap declares_kind is_a

    pub breaks_line : {ts us : List Token} → IsBreak ts us → Declaring us → Between ts after_annotation ≡ Decl us
    breaks_line {ts = ts} no_newline e = no_line ts e
    breaks_line (one_newline {ts = ts} t is) e = item_step t ts after_annotation _ is ∙ a_line ts e

    pub annotations_read : {ts us : List Token} → IsAnnotations text ts us → Declaring us → Decl ts ≡ Decl us
    annotations_read no_annotation e = refl
    annotations_read (one_annotation {ts = ts} a n is_a is_n k br r) e =
        ap (λ x. run text (n ∷ ts) (on_declaration text a d b x)) is_a ∙ item_step n ts after_at _ is_n
        ∙ ap (λ x. run text ts (on_annotation_name text n d b x)) k
        ∙ breaks_line br (annotations_declare r e) ∙ annotations_read r e

    -- ---- classes

    abbrev pub Modified : Modifiers → List Token → State
    Modified m [] = Between [] at_item
    Modified m (t ∷ ts) = run text ts (on_modifiers text t d b m t.kind)

    pub modified_again : (ts : List Token) (m : Modifiers) → NoObject ts
        → Between ts (after_modifiers m.sealed m.case) ≡ Modified m ts
    modified_again [] m e = absurd e
    modified_again (t ∷ ts) m e = refl

    pub modifiers_read : {ts us : List Token} {m n : Modifiers} → IsModified ts us m n → NoObject us
        → Modified m ts ≡ Modified n us
    modifiers_read no_modifier e = refl
    modifiers_read (one_modifier {ts = ts} {us = us} {m = m} {n = n} t is r) e =
        to_state ts _ _ (ap (λ (x : Option Modifiers). on_modified text t d b m x t.kind) is)
        ∙ modified_again ts n (modified_no_object r e) ∙ modifiers_read r e

    pub case_again_by : (t : Token) (k : TokenKind) → is_object k ≡ false
        → on_after_case text t d b k ≡ on_modifiers text t d b (record { sealed = false; case = true }) k
    case_again_by t (Reserve Object) is = absurd (cc)
    case_again_by t _ is = refl

    pub case_again : (ts : List Token) → NoObject ts
        → Between ts after_case ≡ Modified (record { sealed = false; case = true }) ts
    case_again [] e = absurd e
    case_again (t ∷ ts) e = to_state ts _ _ (case_again_by t t.kind e)

    -- a word that begins a class, but `def` and annotations
    pub first_word_by : (t : Token) (ts : List Token) (k : TokenKind) → t.kind ≡ k
        → NoObject ts ⊎ (k ≡ Reserve Case → ⊥)
        → (k ≡ Reserve Def → ⊥) → (k ≡ Op At → ⊥)
        → run text ts (on_declaration text t d b k) ≡ run text ts (on_modifiers text t d b unmodified k)
    first_word_by t ts (Op At) is c nd na = absurd (na refl)
    first_word_by t ts (Reserve Def) is c nd na = absurd (nd refl)
    first_word_by t ts (Reserve Case) is (inl e) nd na = case_again ts e
        ∙ sym (modified_again ts (record { sealed = false; case = true }) e)
    first_word_by t ts (Reserve Case) is (inr e) nd na = absurd (e refl)
    first_word_by t ts _ is c nd na = refl

    pub modifier_no_def : (m n : Modifiers) (k : TokenKind) → modified m k ≡ Some n → k ≡ Reserve Def → ⊥
    modifier_no_def m n k is e = let g = sym (ap (modified m) e) ∙ is in cc

    pub modifier_no_at : (m n : Modifiers) (k : TokenKind) → modified m k ≡ Some n → k ≡ Op At → ⊥
    modifier_no_at m n k is e = let g = sym (ap (modified m) e) ∙ is in cc

    pub trait_no_def : (k : TokenKind) (x : Bool) → is_trait_word k ≡ Some x → k ≡ Reserve Def → ⊥
    trait_no_def k x is e = let g = sym (ap is_trait_word e) ∙ is in cc

    pub trait_no_at : (k : TokenKind) (x : Bool) → is_trait_word k ≡ Some x → k ≡ Op At → ⊥
    trait_no_at k x is e = let g = sym (ap is_trait_word e) ∙ is in cc

    pub trait_no_case : (k : TokenKind) (x : Bool) → is_trait_word k ≡ Some x → k ≡ Reserve Case → ⊥
    trait_no_case k x is e = let g = sym (ap is_trait_word e) ∙ is in cc

    pub first_modifier : {ts us : List Token} {m : Modifiers} {x : Bool} (k : Token)
        → IsModified ts (k ∷ us) unmodified m
        → is_trait_word k.kind ≡ Some x → Decl ts ≡ Modified unmodified ts
    first_modifier {us = us} {x = x} k no_modifier is =
        first_word_by k us k.kind refl (inr (trait_no_case k.kind x is)) (trait_no_def k.kind x is) (trait_no_at
        k.kind x is)
    first_modifier {x = x} k (one_modifier {ts = ts} {n = n} t is_t r) is =
        first_word_by t ts t.kind refl (inl (modified_no_object r (trait_no_object k.kind x is))) (modifier_no_def
        unmodified n t.kind is_t) (modifier_no_at unmodified n t.kind is_t)

    pub class_word : (k : Token) (us : List Token) (m : Modifiers) (x : Bool) → is_trait_word k.kind ≡ Some x
        → Modified m (k ∷ us) ≡ run text us (within d b [] (want_name (of_class m.sealed m.case x)))
    class_word k us m x is =
        to_state us _ _ (ap (λ (y : Option Modifiers). on_modified text k d b m y k.kind) (trait_no_modifier m
        k.kind x is) ∙ ap (on_class_word text k d b m) is)

    pub reaches_class : {ts us : List Token} {x : DeclTree} → IsClass text ts us x → ItemEnds us
        → Between ts at_item ≡ run text us (between (with_decl d x) b after_item)
    reaches_class (class_of {ts = ts} {us = us} {vs = vs} {m = m} {trait = trait} k n an md is_k is_n tp pl pa) e =
        let head = modified_declares md (trait_declares k.kind trait is_k) in
        item_declares ts (annotations_declare an head) ∙ annotations_read an head ∙ first_modifier k md is_k
        ∙ modifiers_read md (trait_no_object k.kind trait is_k) ∙ class_word k (n ∷ vs) m trait is_k
        ∙ class_read text d b m.sealed m.case trait n is_n tp pl pa e
    reaches_class (case_object {ts = ts} {us = us} c k n x an is_c is_k is_n is_x r) e =
        let head = ap declares_kind is_c in
        item_declares ts (annotations_declare an head) ∙ annotations_read an head
        ∙ ap (λ y. run text (k ∷ n ∷ x ∷ us) (on_declaration text c d b y)) is_c
        ∙ item_step k (n ∷ x ∷ us) after_case _ is_k ∙ object_read text d b n x is_n is_x r e

    -- ---- imports

    pub never : (x : Bool) → cond x false false ≡ false
    never true = refl
    never false = refl

    pub path_dot : {ts us : List Token} {k : ℕ} → IsPath text ts us k → (p : Placed) (one : Bool)
        → Between ts (after_path_dot p one) ≡ Between (behind_first ts) (after_path_name p false)
    path_dot {us = us} (last_of_path n is) p one = item_step n us (after_path_dot p one) _ is
    path_dot (more_of_path {ts = ts} n dot is is_d r) p one = item_step n (dot ∷ ts) (after_path_dot p one) _ is

    pub path_read : {ts us : List Token} {k : ℕ} → IsPath text ts us k → (p : Placed) (one : Bool)
        → Between (behind_first ts) (after_path_name p one) ≡ Between us (after_path_name p (cond (is_one k) one
        false))
    path_read (last_of_path n is) p one = refl
    path_read {us = us} (more_of_path {ts = ts} {k = k} n dot is is_d r) p one =
        item_step dot ts (after_path_name p one) _ is_d ∙ path_dot r p one ∙ path_read r p false
        ∙ ap (λ x. Between us (after_path_name p x)) (never (is_one k) ∙ sym (ap (λ x. cond x one false)
        (longer_path text r)))

    pub one_or_false : (x : Bool) → cond x true false ≡ x
    one_or_false true = refl
    one_or_false false = refl

    abbrev pub Placing : Token → Placed
    Placing n = record { word = word text n; at = n.from }

    pub import_begins : {ts us : List Token} {k : ℕ} (i n : Token) → i.kind ≡ Reserve Import
        → IsPath text (n ∷ ts) us k
        → n.kind ≡ Name → Between (i ∷ n ∷ ts) at_item ≡ Between us (after_path_name (Placing n) (is_one k))
    import_begins {ts = ts} {us = us} {k = k} i n is r is_n =
        item_step i (n ∷ ts) at_item _ is ∙ item_step n ts after_import _ is_n ∙ path_read r (Placing n) true
        ∙ ap (λ x. Between us (after_path_name (Placing n) x)) (one_or_false (is_one k))

    pub path_name : {ts us : List Token} {n : Token} {k : ℕ} → IsPath text (n ∷ ts) us k → n.kind ≡ Name
    path_name (last_of_path n is) = is
    path_name (more_of_path n dot is is_d r) = is

    pub path_end_by : (t : Token) (p : Placed) (one : Bool) (k : TokenKind) → is_dot k ≡ false
        → on_path_name text t d b p one k ≡ on_path_end text t d b p (is_library p.word) k
    path_end_by t p one (Mark Dot) is = absurd (cc)
    path_end_by t p one _ is = refl

    pub path_ends : (us : List Token) (p : Placed) (one : Bool) → begins_dot us ≡ false → ItemEnds us
        → is_library p.word ≡ true
        → Between us (after_path_name p one) ≡ Between us after_item
    path_ends [] p one is e lib = absurd e
    path_ends (t ∷ us) p one is e lib =
        to_state us _ _ (path_end_by t p one t.kind is ∙ ap (λ x. on_path_end text t d b p x t.kind) lib)

    pub choice_read : {ts us : List Token} → IsChoice ts us → (p : Placed) → is_library p.word ≡ true
        → Between ts (want_chosen p) ≡ Between us after_item
    choice_read {us = us} (last_chosen n c is is_c) p lib =
        item_step n (c ∷ us) (want_chosen p) _ is ∙ item_step c us (after_chosen p) _ is_c
        ∙ ap (λ x. run text us (on_other_import text c d b p x)) lib
    choice_read (one_more_chosen {ts = ts} n c is is_c r) p lib =
        item_step n (c ∷ ts) (want_chosen p) _ is ∙ item_step c ts (after_chosen p) _ is_c ∙ choice_read r p lib

    pub all_step : (h : Token) (us : List Token) (p : Placed) (one : Bool) → is_library p.word ≡ true
        → run text us (on_import_all text h d b p one) ≡ Between us after_item
    all_step h us p true lib = ap (λ x. run text us (on_object_import text h d b p x)) lib
    all_step h us p false lib = ap (λ x. run text us (on_other_import text h d b p x)) lib

    pub library_read : {ts us : List Token} {x : Bool} (n : Token) → IsImportText text ts us n x
        → is_library (word text n) ≡ true
        → ItemEnds us → Between ts at_item ≡ Between us after_item
    library_read {us = us} n (import_path {k = k} i m is r undotted) lib e =
        import_begins i n is r (path_name r) ∙ path_ends us (Placing n) (is_one k) undotted e lib
    library_read {us = us} n (import_all {k = k} i m dot h is r is_d is_h) lib e =
        import_begins i n is r (path_name r) ∙ item_step dot (h ∷ us) (after_path_name (Placing n) (is_one k)) _ is_d
        ∙ item_step h us (after_path_dot (Placing n) (is_one k)) _ is_h ∙ all_step h us (Placing n) (is_one k) lib
    library_read n (import_some {us = us} {k = k} i m dot o is r is_d is_o c) lib e =
        import_begins i n is r (path_name r) ∙ item_step dot (o ∷ us) (after_path_name (Placing n) (is_one k)) _ is_d
        ∙ item_step o us (after_path_dot (Placing n) (is_one k)) _ is_o ∙ choice_read c (Placing n) lib

    pub object_all : (h : Token) (us : List Token) (p : Placed) (one : Bool) → one ≡ true → is_library p.word ≡ false
        → run text us (on_import_all text h d b p one) ≡ run text us (between (with_import d p) b after_item)
    object_all h us p true is lib = ap (λ x. run text us (on_object_import text h d b p x)) lib
    object_all h us p false is lib = absurd (cc)

    pub object_read_by : {ts us : List Token} {x : Bool} (n : Token) → IsImportText text ts us n x → x ≡ true
        → is_library (word text n) ≡ false
        → Between ts at_item ≡ run text us (between (with_import d (Placing n)) b after_item)
    object_read_by n (import_path i m is r undotted) e lib = absurd (cc)
    object_read_by {us = us} n (import_all {k = k} i m dot h is r is_d is_h) e lib =
        import_begins i n is r (path_name r) ∙ item_step dot (h ∷ us) (after_path_name (Placing n) (is_one k)) _ is_d
        ∙ item_step h us (after_path_dot (Placing n) (is_one k)) _ is_h ∙ object_all h us (Placing n) (is_one k) e lib
    object_read_by n (import_some i m dot o is r is_d is_o c) e lib = absurd (cc)

    pub reaches_import : {ts us : List Token} {ps : List Piece} → IsImport text ts us ps → ItemEnds us
        → Between ts at_item ≡ run text us (between (added d ps) b after_item)
    reaches_import (library n r lib) e = library_read n r lib e
    reaches_import (of_object n r lib) e = object_read_by n r refl lib

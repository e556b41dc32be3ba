-- The automaton's faults: each offset begins a token, and what is unsupported is left out by the language.
use Rattle.pp_grammar.specs.Automaton.{moved, on_item_mode, on_mode, run, start, step}
use Rattle.pp_grammar.specs.Frames.{Fault, ItemMode, Move, Parsed, Placed, State, after_annotation}
use Rattle.pp_grammar.specs.Frames.{after_annotation_line, after_at, after_case, after_chosen, after_import, after_item}
use Rattle.pp_grammar.specs.Frames.{after_modifiers, after_object, after_object_line, after_object_title, after_package}
use Rattle.pp_grammar.specs.Frames.{after_package_name, after_path_dot, after_path_name, at_item, at_start, between}
use Rattle.pp_grammar.specs.Frames.{done, ends, failed, go, stop, syntax_at, unsupported_at, want_chosen, within}
use Rattle.pp_grammar.specs.Joining.{with_decl}
use Rattle.pp_grammar.specs.LeftOut.{HasLeftOut, a_measure, a_requirement, an_annotation, an_import}
use Rattle.pp_grammar.specs.StepItems.{on_after_at, on_after_case, on_after_import, on_after_item, on_after_object}
use Rattle.pp_grammar.specs.StepItems.{on_after_package, on_annotation, on_annotation_name, on_chosen, on_class_word}
use Rattle.pp_grammar.specs.StepItems.{on_declaration, on_def, on_import_all, on_item, on_modified, on_object_closed}
use Rattle.pp_grammar.specs.StepItems.{on_object_import, on_object_line, on_object_title, on_object_word}
use Rattle.pp_grammar.specs.StepItems.{on_other_import, on_package_name, on_path_dot, on_path_end, on_path_name}
use Rattle.pp_grammar.specs.StepItems.{on_start, on_unit_end, on_want_chosen}
use Rattle.pp_grammar.specs.StepTypes.{fault_at}
use Rattle.pp_grammar.specs.Units.{IsImportText, IsPath, Modifiers, import_all, import_path, import_some, is_one}
use Rattle.pp_grammar.specs.Units.{last_chosen, last_of_path, modified, unmodified}
use Rattle.pp_grammar.specs.Words.{is_dot, is_known_annotation, is_library, is_trait_word, word}
use Rattle.pp_grammar_laws.proofs.FaultModes.{mode_good}
use Rattle.pp_grammar_laws.proofs.Faults.{GoodFault, GoodFrames, GoodMode, GoodMove, NameOk, fault_good}
use Rattle.pp_grammar_laws.specs.Laws.{BeginsToken}
use Rattle.pp_grammar_sound.proofs.UnitFronts.{FrontChoice, choice_behind, choice_more, choice_none, longer_path}
use Rattle.pp_grammar_sound.proofs.UnitFronts.{path_goes_on}
use Rattle.pp_tokens.specs.declared.token.Bracket.TheVariants.{CloseBrace, Comma, Dot, OpenBrace, Semicolon}
use Rattle.pp_tokens.specs.declared.token.Operator.TheVariants.{At}
use Rattle.pp_tokens.specs.declared.token.Reserved.TheVariants.{Case, Def, Import, Object, Package}
use Rattle.pp_tokens.specs.declared.token.Token.{Token}
use Rattle.pp_tokens.specs.declared.token.TokenKind.{TokenKind}
use Rattle.pp_tokens.specs.declared.token.TokenKind.TheVariants.{End, Hole, Mark, Name, Newline, Op, Word as Reserve}
use Rattle.pp_tree.specs.Plain.{Word}
use Rattle.std.proofs.Common.{Bool, List, None, Option, Some, [], ap, false, refl, subst, sym, true, ℕ, ◌++◌, ◌∙◌, ◌∷◌}
use Rattle.std.proofs.Common.{◌≡◌}
use Rattle.std.proofs.lemmas.List.{append_assoc}

module _ (text : Word) (ts : List Token) where
  abbrev pub BeginsAt : ℕ → Type 0
  BeginsAt n = BeginsToken ts n

  abbrev pub LeftOutAt : Word → ℕ → Type 0
  LeftOutAt w n = HasLeftOut text ts w n

  -- the tokens us are left, the token t is the next
  token_begins : (front : List Token) (t : Token) (us : List Token) → ts ≡ front ++ t ∷ us → BeginsAt t.from
  token_begins front t us e = record { front = front; token = t; rest = us; whole = e; place = refl }

  name_ok : (front : List Token) (t : Token) (us : List Token) → ts ≡ front ++ t ∷ us → t.kind ≡ Name
      → NameOk BeginsAt LeftOutAt (word text t) t.from
  name_ok front t us e is = record {
    requires = λ r. record {
      front = front;
      rest = t ∷ us;
      name = t;
      whole = e;
      left_out = a_requirement t is r;
      is_name = refl;
      is_place = refl;
    };
    decreases = λ r. record {
      front = front;
      rest = t ∷ us;
      name = t;
      whole = e;
      left_out = a_measure t is r;
      is_name = refl;
      is_place = refl;
    };
    begins = token_begins front t us e;
  }

  -- ---- between declarations

  abbrev is_plain_item : ItemMode → Bool
  is_plain_item after_import = false
  is_plain_item (after_path_name p one) = false
  is_plain_item (after_path_dot p one) = false
  is_plain_item (want_chosen p) = false
  is_plain_item (after_chosen p) = false
  is_plain_item after_at = false
  is_plain_item _ = true

  -- what is read of an import or an annotation, before the tokens us
  data GoodItem : List Token → ItemMode → Type 0 where
    good_plain : {us : List Token} (m : ItemMode) → is_plain_item m ≡ true → GoodItem us m
    good_import : {us : List Token} (front : List Token) (i : Token) → ts ≡ front ++ i ∷ us → i.kind ≡ Reserve Import
        → GoodItem us after_import
    good_path : {us vs : List Token} {k : ℕ} (front : List Token) (i n : Token) → ts ≡ front ++ i ∷ n ∷ us
        → i.kind ≡ Reserve Import → IsPath text (n ∷ us) vs k
        → GoodItem vs (after_path_name (record { word = word text n; at = n.from }) (is_one k))
    good_path_dot : {us vs : List Token} {k : ℕ} (front : List Token) (i n dot : Token) → ts ≡ front ++ i ∷ n ∷ us
        → i.kind ≡ Reserve Import → IsPath text (n ∷ us) (dot ∷ vs) k → dot.kind ≡ Mark Dot
        → GoodItem vs (after_path_dot (record { word = word text n; at = n.from }) (is_one k))
    good_want_chosen : {us vs ws : List Token} {k : ℕ} (front : List Token) (i n dot o : Token)
        → ts ≡ front ++ i ∷ n ∷ us → i.kind ≡ Reserve Import → IsPath text (n ∷ us) (dot ∷ o ∷ vs) k
        → dot.kind ≡ Mark Dot → o.kind ≡ Mark OpenBrace → FrontChoice vs ws
        → GoodItem ws (want_chosen (record { word = word text n; at = n.from }))
    good_chosen : {us vs ws : List Token} {k : ℕ} (front : List Token) (i n dot o m : Token)
        → ts ≡ front ++ i ∷ n ∷ us
        → i.kind ≡ Reserve Import → IsPath text (n ∷ us) (dot ∷ o ∷ vs) k → dot.kind ≡ Mark Dot
        → o.kind ≡ Mark OpenBrace → FrontChoice vs (m ∷ ws) → m.kind ≡ Name
        → GoodItem ws (after_chosen (record { word = word text n; at = n.from }))
    good_at : {us : List Token} (front : List Token) (a : Token) → ts ≡ front ++ a ∷ us → a.kind ≡ Op At
        → GoodItem us after_at

  abbrev GoodState : List Token → State → Type 0
  GoodState us (between d b m) = GoodItem us m
  GoodState us (within d b s m) = GoodFrames BeginsAt LeftOutAt s × GoodMode BeginsAt LeftOutAt m
  GoodState us (failed f) = GoodFault BeginsAt LeftOutAt f
  GoodState us (done u) = Unit {0}

  second_of : (front : List Token) (i n : Token) (us : List Token) → ts ≡ front ++ i ∷ n ∷ us → BeginsAt n.from
  second_of front i n us e =
      record {
        front = front ++ i ∷ [];
        token = n;
        rest = us;
        whole = e
            ∙ sym (append_assoc front (i ∷ []) (n ∷ us));
        place = refl;
      }

  import_left_out : {us vs : List Token} (front : List Token) (i n : Token) → ts ≡ front ++ i ∷ n ∷ us
      → IsImportText text (i ∷ n ∷ us) vs n false → is_library (word text n) ≡ false
      → LeftOutAt (word text n) n.from × BeginsAt n.from
  import_left_out {us = us} front i n e r lib = (
    record {
      front = front;
      rest = i ∷ n ∷ us;
      name = n;
      whole = e;
      left_out = an_import n r lib;
      is_name =
          refl;
      is_place = refl;
    },
    second_of front i n us e,
  )

  module _ (front : List Token) (t : Token) (us : List Token) (e : ts ≡ front ++ t ∷ us) where
    refused_item : GoodFault BeginsAt LeftOutAt (fault_at text t t.kind)
    refused_item = fault_good text BeginsAt LeftOutAt t (token_begins front t us e) (name_ok front t us e) t.kind refl

    good_object_closed : (d : Parsed) (b : Bool) → GoodState us (on_object_closed text t d b)
    good_object_closed d true = good_plain after_item refl
    good_object_closed d false = refused_item

    good_unit_end : (d : Parsed) (b : Bool) → GoodState us (on_unit_end text t d b)
    good_unit_end d false = tt
    good_unit_end d true = refused_item

    good_after_item : (d : Parsed) (b : Bool) (k : TokenKind) → GoodState us (on_after_item text t d b k)
    good_after_item d b Newline = good_plain at_item refl
    good_after_item d b (Mark Semicolon) = good_plain at_item refl
    good_after_item d b (Mark CloseBrace) = good_object_closed d b
    good_after_item d b End = good_unit_end d b
    good_after_item d b _ = refused_item

    good_other_import : {vs : List Token} (d : Parsed) (b : Bool) (f : List Token) (i n : Token) (x : Bool)
        → is_library (word text n) ≡ x → ts ≡ f ++ i ∷ n ∷ vs → {ws : List Token}
        → IsImportText text (i ∷ n ∷ vs) ws n false
        → GoodState us (on_other_import text t d b (record { word = word text n; at = n.from }) x)
    good_other_import d b f i n true is w r = good_plain after_item refl
    good_other_import d b f i n false is w r = import_left_out f i n w r is

    good_path_end : {vs : List Token} (d : Parsed) (b : Bool) (f : List Token) (i n : Token) (x : Bool) (k :
        TokenKind)
        → is_library (word text n) ≡ x → ts ≡ f ++ i ∷ n ∷ vs → {ws : List Token}
        → IsImportText text (i ∷ n ∷ vs) ws n false
        → GoodState us (on_path_end text t d b (record { word = word text n; at = n.from }) x k)
    good_path_end d b f i n true k is w r = good_after_item d b k
    good_path_end d b f i n false k is w r = import_left_out f i n w r is

    good_object_import : (d : Parsed) (b : Bool) (p : Placed) (x : Bool)
        → GoodState us (on_object_import text t d b p x)
    good_object_import d b p true = good_plain after_item refl
    good_object_import d b p false = good_plain after_item refl

    good_import_all : {vs : List Token} (d : Parsed) (b : Bool) (f : List Token) (i n : Token) (one : Bool)
        → ts ≡ f ++ i ∷ n ∷ vs → {ws : List Token} → IsImportText text (i ∷ n ∷ vs) ws n one
        → GoodState us (on_import_all text t d b (record { word = word text n; at = n.from }) one)
    good_import_all d b f i n true w r =
        good_object_import d b (record { word = word text n; at = n.from }) (is_library (word text n))
    good_import_all d b f i n false w r = good_other_import d b f i n (is_library (word text n)) refl w r

    good_after_import : (d : Parsed) (b : Bool) (f : List Token) (i : Token) (k : TokenKind) → t.kind ≡ k
        → ts ≡ f ++ i ∷ t ∷ us → i.kind ≡ Reserve Import → GoodState us (on_after_import text t d b k)
    good_after_import d b f i Name is w is_i = good_path f i t w is_i (last_of_path t is)
    good_after_import d b f i _ is w is_i = refused_item

    path_only : {vs : List Token} {k : ℕ} (i n : Token) (j : TokenKind) → t.kind ≡ j → is_dot j ≡ false
        → i.kind ≡ Reserve Import → IsPath text (n ∷ vs) (t ∷ us) k → IsImportText text (i ∷ n ∷ vs) (t ∷ us) n false
    path_only i n j is undotted is_i r = import_path i n is_i r (ap is_dot is ∙ undotted)

    good_path_name : {vs : List Token} {m : ℕ} (d : Parsed) (b : Bool) (f : List Token) (i n : Token) (k : TokenKind)
        → t.kind ≡ k → ts ≡ f ++ i ∷ n ∷ vs → i.kind ≡ Reserve Import → IsPath text (n ∷ vs) (t ∷ us) m
        → GoodState us (on_path_name text t d b (record { word = word text n; at = n.from }) (is_one m) k)
    good_path_name d b f i n (Mark Dot) is w is_i r = good_path_dot f i n t w is_i r is
    good_path_name d b f i n k is w is_i r =
        good_path_end d b f i n (is_library (word text n)) k refl w (path_only i n k is refl is_i r)

    good_longer : {vs : List Token} {m : ℕ} (f : List Token) (i n dot : Token) → t.kind ≡ Name → ts ≡ f ++ i ∷ n ∷ vs
        → i.kind ≡ Reserve Import → IsPath text (n ∷ vs) (dot ∷ t ∷ us) m → dot.kind ≡ Mark Dot
        → GoodItem us (after_path_name (record { word = word text n; at = n.from }) false)
    good_longer f i n dot is w is_i r is_d =
        let P : Bool → Type 0 = λ x. GoodItem us (after_path_name (record { word = word text n; at = n.from }) x) in
        subst P (longer_path text r) (good_path f i n w is_i (path_goes_on text dot t r is_d is))

    good_after_dot : {vs : List Token} {m : ℕ} (d : Parsed) (b : Bool) (f : List Token) (i n dot : Token) (k :
        TokenKind)
        → t.kind ≡ k → ts ≡ f ++ i ∷ n ∷ vs → i.kind ≡ Reserve Import → IsPath text (n ∷ vs) (dot ∷ t ∷ us) m
        → dot.kind ≡ Mark Dot
        → GoodState us (on_path_dot text t d b (record { word = word text n; at = n.from }) (is_one m) k)
    good_after_dot d b f i n dot Name is w is_i r is_d = good_longer f i n dot is w is_i r is_d
    good_after_dot {m = m} d b f i n dot Hole is w is_i r is_d =
        good_import_all d b f i n (is_one m) w (import_all i n dot t is_i r is_d is)
    good_after_dot d b f i n dot (Mark OpenBrace) is w is_i r is_d = good_want_chosen f i n dot t w is_i r is_d is
        choice_none
    good_after_dot d b f i n dot _ is w is_i r is_d = refused_item

    good_choosing : {vs ws : List Token} {m : ℕ} (d : Parsed) (b : Bool) (f : List Token) (i n dot o : Token) (k :
        TokenKind)
        → t.kind ≡ k → ts ≡ f ++ i ∷ n ∷ vs → i.kind ≡ Reserve Import → IsPath text (n ∷ vs) (dot ∷ o ∷ ws) m
        → dot.kind ≡ Mark Dot → o.kind ≡ Mark OpenBrace → FrontChoice ws (t ∷ us)
        → GoodState us (on_want_chosen text t d b (record { word = word text n; at = n.from }) k)
    good_choosing d b f i n dot o Name is w is_i r is_d is_o c = good_chosen f i n dot o t w is_i r is_d is_o c is
    good_choosing d b f i n dot o _ is w is_i r is_d is_o c = refused_item

    good_choice : {vs ws : List Token} {m : ℕ} (d : Parsed) (b : Bool) (f : List Token) (i n dot o x : Token) (k :
        TokenKind)
        → t.kind ≡ k → ts ≡ f ++ i ∷ n ∷ vs → i.kind ≡ Reserve Import → IsPath text (n ∷ vs) (dot ∷ o ∷ ws) m
        → dot.kind ≡ Mark Dot → o.kind ≡ Mark OpenBrace → FrontChoice ws (x ∷ t ∷ us) → x.kind ≡ Name
        → GoodState us (on_chosen text t d b (record { word = word text n; at = n.from }) k)
    good_choice d b f i n dot o x (Mark Comma) is w is_i r is_d is_o c is_x =
        good_want_chosen f i n dot o w is_i r is_d is_o (choice_more x t c is_x is)
    good_choice d b f i n dot o x (Mark CloseBrace) is w is_i r is_d is_o c is_x =
        good_other_import d b f i n (is_library (word text n)) refl w (import_some i n dot o is_i r is_d is_o
        (choice_behind c (last_chosen x t is_x is)))
    good_choice d b f i n dot o x _ is w is_i r is_d is_o c is_x = refused_item

    -- ---- declarations

    good_class_word : (d : Parsed) (b : Bool) (m : Modifiers) (x : Option Bool)
        → GoodState us (on_class_word text t d b m x)
    good_class_word d b m (Some y) = (tt, tt)
    good_class_word d b m None = refused_item

    good_modified : (d : Parsed) (b : Bool) (m : Modifiers) (x : Option Modifiers) (k : TokenKind)
        → GoodState us (on_modified text t d b m x k)
    good_modified d b m (Some n) k = good_plain (after_modifiers n.sealed n.case) refl
    good_modified d b m None k = good_class_word d b m (is_trait_word k)

    good_def : (d : Parsed) (b : Bool) → GoodState us (on_def text t d b)
    good_def d true = (tt, tt)
    good_def d false = refused_item

    good_declaration : (d : Parsed) (b : Bool) (k : TokenKind) → t.kind ≡ k
        → GoodState us (on_declaration text t d b k)
    good_declaration d b (Op At) is = good_at front t e is
    good_declaration d b (Reserve Def) is = good_def d b
    good_declaration d b (Reserve Case) is = good_plain after_case refl
    good_declaration d b k is = good_modified d b unmodified (modified unmodified k) k

    good_after_case : (d : Parsed) (b : Bool) (k : TokenKind) → GoodState us (on_after_case text t d b k)
    good_after_case d b (Reserve Object) = (tt, tt)
    good_after_case d b k =
        good_modified d b (record { sealed = false; case = true }) (modified (record {
          sealed = false;
          case = true;
        }) k) k

    good_annotation_name : (d : Parsed) (b : Bool) (f : List Token) (a : Token) (x : Bool)
        → is_known_annotation (word text t) ≡ x → t.kind ≡ Name → ts ≡ f ++ a ∷ t ∷ us → a.kind ≡ Op At
        → GoodState us (on_annotation_name text t d b x)
    good_annotation_name d b f a true known is w is_a = good_plain after_annotation refl
    good_annotation_name d b f a false known is w is_a = (
      record {
        front = f;
        rest = a ∷ t ∷ us;
        name = t;
        whole = w;
        left_out = an_annotation a t is_a is known;
        is_name = refl;
        is_place = refl;
      },
      token_begins front t us e,
    )

    good_after_at : (d : Parsed) (b : Bool) (f : List Token) (a : Token) (k : TokenKind) → t.kind ≡ k
        → ts ≡ f ++ a ∷ t ∷ us → a.kind ≡ Op At → GoodState us (on_after_at text t d b k)
    good_after_at d b f a Name is w is_a = good_annotation_name d b f a (is_known_annotation (word text t)) refl is
        w is_a
    good_after_at d b f a _ is w is_a = refused_item

    good_annotation : (d : Parsed) (b : Bool) (k : TokenKind) → t.kind ≡ k → GoodState us (on_annotation text t d b k)
    good_annotation d b Newline is = good_plain after_annotation_line refl
    good_annotation d b k is = good_declaration d b k is

    good_object_word : (d : Parsed) (b : Bool) → GoodState us (on_object_word text t d b)
    good_object_word d false = good_plain after_object refl
    good_object_word d true = refused_item

    good_item : (d : Parsed) (b : Bool) (k : TokenKind) → t.kind ≡ k → GoodState us (on_item text t d b k)
    good_item d b Newline is = good_plain at_item refl
    good_item d b (Mark Semicolon) is = good_plain at_item refl
    good_item d b (Mark CloseBrace) is = good_object_closed d b
    good_item d b End is = good_unit_end d b
    good_item d b (Reserve Import) is = good_import front t e is
    good_item d b (Reserve Object) is = good_object_word d b
    good_item d b k is = good_declaration d b k is

    good_start : (d : Parsed) (b : Bool) (k : TokenKind) → t.kind ≡ k → GoodState us (on_start text t d b k)
    good_start d b Newline is = good_plain at_start refl
    good_start d b (Mark Semicolon) is = good_plain at_start refl
    good_start d b (Reserve Package) is = good_plain after_package refl
    good_start d b k is = good_item d b k is

    good_package : (d : Parsed) (b : Bool) (k : TokenKind) → GoodState us (on_after_package text t d b k)
    good_package d b Name = good_plain after_package_name refl
    good_package d b _ = refused_item

    good_package_name : (d : Parsed) (b : Bool) (k : TokenKind) → GoodState us (on_package_name text t d b k)
    good_package_name d b (Mark Dot) = good_plain after_package refl
    good_package_name d b Newline = good_plain at_start refl
    good_package_name d b (Mark Semicolon) = good_plain at_start refl
    good_package_name d b _ = refused_item

    good_object : (d : Parsed) (b : Bool) (k : TokenKind) → GoodState us (on_after_object text t d b k)
    good_object d b Name = good_plain after_object_title refl
    good_object d b _ = refused_item

    good_object_line : (d : Parsed) (k : TokenKind) → GoodState us (on_object_line text t d k)
    good_object_line d (Mark OpenBrace) = good_plain at_item refl
    good_object_line d _ = refused_item

    good_object_title : (d : Parsed) (k : TokenKind) → GoodState us (on_object_title text t d k)
    good_object_title d Newline = good_plain after_object_line refl
    good_object_title d k = good_object_line d k

    -- ---- one token

    good_plain_mode : (d : Parsed) (b : Bool) (m : ItemMode) → is_plain_item m ≡ true
        → GoodState us (on_item_mode text t d b m t.kind)
    good_plain_mode d b at_start is = good_start d b t.kind refl
    good_plain_mode d b at_item is = good_item d b t.kind refl
    good_plain_mode d b after_item is = good_after_item d b t.kind
    good_plain_mode d b after_package is = good_package d b t.kind
    good_plain_mode d b after_package_name is = good_package_name d b t.kind
    good_plain_mode d b after_object is = good_object d b t.kind
    good_plain_mode d b after_object_title is = good_object_title d t.kind
    good_plain_mode d b after_object_line is = good_object_line d t.kind
    good_plain_mode d b after_annotation is = good_annotation d b t.kind refl
    good_plain_mode d b after_annotation_line is = good_declaration d b t.kind refl
    good_plain_mode d b after_case is = good_after_case d b t.kind
    good_plain_mode d b (after_modifiers s c) is =
        good_modified d b (record { sealed = s; case = c }) (modified (record { sealed = s; case = c }) t.kind) t.kind
    good_plain_mode d b _ is = absurd (cc)

    good_item_mode : (d : Parsed) (b : Bool) (m : ItemMode) → GoodItem (t ∷ us) m
        → GoodState us (on_item_mode text t d b m t.kind)
    good_item_mode d b m (good_plain n is) = good_plain_mode d b n is
    good_item_mode d b m (good_import f i w is_i) = good_after_import d b f i t.kind refl w is_i
    good_item_mode d b m (good_path f i n w is_i r) = good_path_name d b f i n t.kind refl w is_i r
    good_item_mode d b m (good_path_dot f i n dot w is_i r is_d) = good_after_dot d b f i n dot t.kind refl w is_i
        r is_d
    good_item_mode d b m (good_want_chosen f i n dot o w is_i r is_d is_o c) =
        good_choosing d b f i n dot o t.kind refl w is_i r is_d is_o c
    good_item_mode d b m (good_chosen f i n dot o x w is_i r is_d is_o c is_x) =
        good_choice d b f i n dot o x t.kind refl w is_i r is_d is_o c is_x
    good_item_mode d b m (good_at f a w is_a) = good_after_at d b f a t.kind refl w is_a

    good_moved : (d : Parsed) (b : Bool) (m : Move) → GoodMove BeginsAt LeftOutAt m
        → GoodState us (moved text t d b m)
    good_moved d b (go s m) g = g
    good_moved d b (stop f) g = g
    good_moved d b (ends x) g = good_after_item (with_decl d x) b t.kind

    good_step : (st : State) → GoodState (t ∷ us) st → GoodState us (step text t st)
    good_step (between d b m) g = good_item_mode d b m g
    good_step (within d b s m) g =
        good_moved d b (on_mode text t s m t.kind) (mode_good text BeginsAt LeftOutAt t (token_begins front t us e)
        (name_ok front t us e) s m g.0 g.1)
    good_step (failed f) g = g
    good_step (done u) g = token_begins front t us e

  good_run : (front us : List Token) (st : State) → ts ≡ front ++ us → GoodState us st → GoodState [] (run text us st)
  good_run front [] st e g = g
  good_run front (t ∷ us) st e g =
      good_run (front ++ t ∷ []) us (step text t st) (e ∙ sym (append_assoc front (t ∷ []) us)) (good_step front t
      us e st g)

  good_fault : (f : Fault) → run text ts start ≡ failed f → GoodFault BeginsAt LeftOutAt f
  good_fault f is =
      let P : State → Type 0 = λ st. GoodState [] st in
      subst P is (good_run [] ts start refl (good_plain at_start refl))

-- the offset of a fault
abbrev pub fault_place : Fault → ℕ
fault_place (syntax_at n) = n
fault_place (unsupported_at w n) = n

-- what is answered as unsupported is left out at that offset, under that name
pub unsupported_is_left_out : (text : Word) (ts : List Token) (w : Word) (n : ℕ)
    → run text ts start ≡ failed (unsupported_at w n) → HasLeftOut text ts w n
unsupported_is_left_out text ts w n is = (good_fault text ts (unsupported_at w n) is).0

-- the offset of a fault begins a token
pub fault_begins : (text : Word) (ts : List Token) (f : Fault) → run text ts start ≡ failed f
    → BeginsToken ts (fault_place f)
fault_begins text ts (syntax_at n) is = good_fault text ts (syntax_at n) is
fault_begins text ts (unsupported_at w n) is = (good_fault text ts (unsupported_at w n) is).1

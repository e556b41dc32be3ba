-- The automaton reads each function and each class that is spelled, from its name on.
use Rattle.pp_grammar.specs.Automaton.{run}
use Rattle.pp_grammar.specs.Bodies.{IsBody}
use Rattle.pp_grammar.specs.Frames.{Frame, Head, Kind, Parsed, after_head_name, after_item, after_object_name}
use Rattle.pp_grammar.specs.Frames.{after_param_name, after_params, after_type_param, after_type_params, between, ends}
use Rattle.pp_grammar.specs.Frames.{have_type, header, object_parent, of_class, of_def, param_type, params_open}
use Rattle.pp_grammar.specs.Frames.{parent_type, result_type, want_name, want_object_name, want_param, want_type_param}
use Rattle.pp_grammar.specs.Joining.{class_tree, object_tree, onto, with_decl, with_param, with_type_param}
use Rattle.pp_grammar.specs.StepBodies.{on_after_params, on_after_type_params, on_class_params, on_head_name}
use Rattle.pp_grammar.specs.Types.{IsType}
use Rattle.pp_grammar.specs.Units.{IsNames, IsParamList, IsParams, IsParent, IsTypeParams, class_decl, empty_list}
use Rattle.pp_grammar.specs.Units.{last_name, last_param, no_list, no_parent, no_type_params, one_more_name}
use Rattle.pp_grammar.specs.Units.{one_more_param, param_list, parent, type_params}
use Rattle.pp_grammar.specs.Words.{word}
use Rattle.pp_grammar_complete.proofs.ReachBodies.{MemberEnds, def_of_parts, reaches_body}
use Rattle.pp_grammar_complete.proofs.ReachContracts.{onto_twice}
use Rattle.pp_grammar_complete.proofs.ReachTypes.{reaches_type}
use Rattle.pp_grammar_complete.proofs.Steps.{Ends, Run, go_on, goes_on, take_step}
use Rattle.pp_grammar_sound.proofs.Opens.{head_of}
use Rattle.pp_tokens.specs.declared.token.Bracket.TheVariants.{CloseBrace, CloseRound, CloseSquare, Comma, Dot}
use Rattle.pp_tokens.specs.declared.token.Bracket.TheVariants.{OpenBrace, OpenRound, OpenSquare, Semicolon}
use Rattle.pp_tokens.specs.declared.token.Operator.TheVariants.{Assign, Colon}
use Rattle.pp_tokens.specs.declared.token.Reserved.TheVariants.{Extends}
use Rattle.pp_tokens.specs.declared.token.Token.{Token}
use Rattle.pp_tokens.specs.declared.token.TokenKind.{TokenKind}
use Rattle.pp_tokens.specs.declared.token.TokenKind.TheVariants.{End, Mark, Name, Newline, Op, Word as Reserve}
use Rattle.pp_tree.specs.Plain.{ClassTree, DeclTree, ParamTree, PostTree, Tree, TypeTree, Word, def}
use Rattle.std.proofs.Common.{Bool, List, None, Option, Some, [], ap, false, refl, sym, true, ℕ, ◌∙◌, ◌∷◌, ◌≡◌}

-- the tokens that end an item
abbrev pub ends_item : TokenKind → Bool
ends_item Newline = true
ends_item (Mark Semicolon) = true
ends_item (Mark CloseBrace) = true
ends_item End = true
ends_item _ = false

abbrev pub ItemEnds : List Token → Type 0
ItemEnds [] = ⊥
ItemEnds (t ∷ ts) = ends_item t.kind ≡ true

item_end_by : (k : TokenKind) → ends_item k ≡ true → goes_on k ≡ false
item_end_by Newline is = refl
item_end_by (Mark Semicolon) is = refl
item_end_by (Mark CloseBrace) is = refl
item_end_by End is = refl
item_end_by _ is = absurd (cc)

pub item_end : (ts : List Token) → ItemEnds ts → Ends ts
item_end [] e = e
item_end (t ∷ ts) e = item_end_by t.kind e

module _ (text : Word) (d : Parsed) (b : Bool) where
  -- ---- type parameters

  names_read : {ts us : List Token} {ns : List Word} → IsNames text ts us ns → (kind : Kind) (h : Head)
      → Run text d b ts (header kind h ∷ []) want_type_param
      ≡ Run text d b us (header kind (record h { type_params = onto ns h.type_params }) ∷ []) after_type_params
  names_read {us = us} (last_name n c is is_c) kind h =
      take_step text d b n (c ∷ us) (header kind h ∷ []) want_type_param _ is
      ∙ take_step text d b c us (header kind (with_type_param h (word text n)) ∷ []) after_type_param _ is_c
  names_read (one_more_name {ts = ts} n c is is_c r) kind h =
      take_step text d b n (c ∷ ts) (header kind h ∷ []) want_type_param _ is
      ∙ take_step text d b c ts (header kind (with_type_param h (word text n)) ∷ []) after_type_param _ is_c
      ∙ names_read r kind (with_type_param h (word text n))

  -- a token that doesn't begin type parameters
  no_square_by : (t : Token) (s : List Frame) (k : TokenKind) → (k ≡ Mark OpenSquare → ⊥)
      → on_head_name text t s k ≡ on_after_type_params text t s k
  no_square_by t s (Mark OpenRound) unlike = refl
  no_square_by t s (Mark CloseRound) unlike = refl
  no_square_by t s (Mark OpenSquare) unlike = absurd (unlike refl)
  no_square_by t s (Mark CloseSquare) unlike = refl
  no_square_by t s (Mark OpenBrace) unlike = refl
  no_square_by t s (Mark CloseBrace) unlike = refl
  no_square_by t s (Mark Comma) unlike = refl
  no_square_by t s (Mark Dot) unlike = refl
  no_square_by t s (Mark Semicolon) unlike = refl
  no_square_by t s _ unlike = refl

  abbrev NoSquare : List Token → Type 0
  NoSquare [] = ⊥
  NoSquare (t ∷ ts) = t.kind ≡ Mark OpenSquare → ⊥

  no_square : (ts : List Token) (s : List Frame) → NoSquare ts
      → Run text d b ts s after_head_name ≡ Run text d b ts s after_type_params
  no_square [] s n = absurd n
  no_square (t ∷ ts) s n = go_on text d b t ts _ _ (no_square_by t s t.kind n)

  ends_no_square : (ts : List Token) → Ends ts → NoSquare ts
  ends_no_square [] e = e
  ends_no_square (t ∷ ts) e = λ is. (let g = sym (ap goes_on is) ∙ e in cc)

  list_no_square : {ts us : List Token} {listed : Bool} {ps : List ParamTree} → IsParamList text ts us listed ps
      → Ends us
      → NoSquare ts
  list_no_square {us = us} no_list e = ends_no_square us e
  list_no_square (empty_list o c is is_c) e = λ is2. (let g = sym is ∙ is2 in cc)
  list_no_square (param_list o is ps) e = λ is2. (let g = sym is ∙ is2 in cc)

  type_params_read : {ts us : List Token} {ns : List Word} → IsTypeParams text ts us ns → NoSquare us → (kind : Kind)
      (h : Head) → Run text d b ts (header kind h ∷ []) after_head_name
      ≡ Run text d b us (header kind (record h { type_params = onto ns h.type_params }) ∷ []) after_type_params
  type_params_read {us = us} no_type_params n kind h = no_square us (header kind h ∷ []) n
  type_params_read (type_params {ts = ts} o is r) n kind h =
      take_step text d b o ts (header kind h ∷ []) after_head_name _ is ∙ names_read r kind h

  -- ---- parameters

  params_read : {ts us : List Token} {ps : List ParamTree} → IsParams text ts us ps → (kind : Kind) (h : Head)
      → Run text d b ts (header kind h ∷ []) want_param
      ≡ Run text d b us (header kind (record h { listed = true; params = onto ps h.params }) ∷ []) after_params
  params_read {us = us} (last_param {ts = ts} {t = t} n c e is is_c r is_e) kind h =
      let f : List Frame = header kind h ∷ [] in let w : Word = word text n in
      take_step text d b n (c ∷ ts) f want_param _ is ∙ take_step text d b c ts f (after_param_name n.from w) _ is_c
      ∙ reaches_type text d b r (param_type n.from w ∷ f) (ap goes_on is_e)
      ∙ take_step text d b e us (param_type n.from w ∷ f) (have_type t) _ is_e
  params_read (one_more_param {ts = ts} {us = us} {t = t} n c e is is_c r is_e rs) kind h =
      let f : List Frame = header kind h ∷ [] in let w : Word = word text n in
      take_step text d b n (c ∷ ts) f want_param _ is ∙ take_step text d b c ts f (after_param_name n.from w) _ is_c
      ∙ reaches_type text d b r (param_type n.from w ∷ f) (ap goes_on is_e)
      ∙ take_step text d b e us (param_type n.from w ∷ f) (have_type t) _ is_e
      ∙ params_read rs kind (with_param h n.from w t)

  params_head : {ts us : List Token} {ps : List ParamTree} → IsParams text ts us ps → (s : List Frame)
      → Run text d b ts s params_open ≡ Run text d b ts s want_param
  params_head (last_param {ts = ts} n c e is is_c r is_e) s =
      take_step text d b n (c ∷ ts) s params_open _ is ∙ sym (take_step text d b n (c ∷ ts) s want_param _ is)
  params_head (one_more_param {ts = ts} n c e is is_c r is_e rs) s =
      take_step text d b n (c ∷ ts) s params_open _ is ∙ sym (take_step text d b n (c ∷ ts) s want_param _ is)

  no_list_by : (t : Token) (s : List Frame) (k : TokenKind) → goes_on k ≡ false
      → on_after_type_params text t s k ≡ on_after_params text t s k
  no_list_by t s (Mark OpenRound) is = absurd (cc)
  no_list_by t s _ is = refl

  no_list_read : (ts : List Token) (s : List Frame) → Ends ts
      → Run text d b ts s after_type_params ≡ Run text d b ts s after_params
  no_list_read [] s e = absurd e
  no_list_read (t ∷ ts) s e = go_on text d b t ts _ _ (no_list_by t s t.kind e)

  list_read : {ts us : List Token} {listed : Bool} {ps : List ParamTree} → IsParamList text ts us listed ps → Ends us
      → (kind : Kind) (n : Token) (ws : List Word) → Run text d b ts (header kind (head_of text n ws false []) ∷
      []) after_type_params
      ≡ Run text d b us (header kind (head_of text n ws listed (onto ps [])) ∷ []) after_params
  list_read {us = us} no_list e kind n ws = no_list_read us (header kind (head_of text n ws false []) ∷ []) e
  list_read {us = us} (empty_list o c is is_c) e kind n ws =
      let f : List Frame = header kind (head_of text n ws false []) ∷ [] in
      take_step text d b o (c ∷ us) f after_type_params _ is ∙ take_step text d b c us f params_open _ is_c
  list_read (param_list {ts = ts} o is r) e kind n ws =
      let f : List Frame = header kind (head_of text n ws false []) ∷ [] in
      take_step text d b o ts f after_type_params _ is ∙ params_head r f
      ∙ params_read r kind (head_of text n ws false [])

  head_read : {us vs ws : List Token} {listed : Bool} {tparams : List Word} {ps : List ParamTree} (kind : Kind) (n
      : Token)
      → n.kind ≡ Name → IsTypeParams text us vs tparams → IsParamList text vs ws listed ps → Ends ws
      → Run text d b (n ∷ us) [] (want_name kind)
      ≡ Run text d b ws (header kind (head_of text n (onto tparams []) listed (onto ps [])) ∷ []) after_params
  head_read {us = us} {tparams = tparams} kind n is tp pl e =
      take_step text d b n us [] (want_name kind) _ is
      ∙ type_params_read tp (list_no_square pl e) kind (head_of text n [] false [])
      ∙ list_read pl e kind n (onto tparams [])

  -- ---- functions

  def_parts : (n : Token) (tparams : List Word) (listed : Bool) (ps : List ParamTree) (a : TypeTree) (pre m : List
      Tree)
      (e : Tree) (p : Option PostTree)
      → def_of_parts (head_of text n (onto tparams []) listed (onto ps [])) a pre m e p
      ≡ def (record {
        at = n.from;
        name = word text n;
        type_params = tparams;
        params = ps;
        list = listed;
        result =
            a;
        pre = pre;
        measure = m;
        body = e;
        post = p;
      })
  def_parts n tparams listed ps a pre m e p =
      let f : List Word → List ParamTree → DeclTree = λ x y. def (record {
        at = n.from;
        name = word text n;
        type_params = x;
        params = y;
        list = listed;
        result = a;
        pre = pre;
        measure = m;
        body = e;
        post = p;
      }) in
      ap (λ x. f x (onto (onto ps []) [])) (onto_twice tparams) ∙ ap (λ y. f tparams y) (onto_twice ps)

  pub def_read : {us vs ws xs ys : List Token} {tparams : List Word} {listed : Bool} {ps : List ParamTree} {a :
      TypeTree}
      {pre m : List Tree} {e : Tree} {p : Option PostTree} (n c q : Token) → n.kind ≡ Name
      → IsTypeParams text us vs tparams → IsParamList text vs (c ∷ ws) listed ps → c.kind ≡ Op Colon
      → IsType text ws (q ∷ xs) a → q.kind ≡ Op Assign → IsBody text xs ys pre m e p → MemberEnds ys
      → Run text d b (n ∷ us) [] (want_name of_def)
      ≡ run text ys (between (with_decl d (def (record {
        at = n.from;
        name = word text n;
        type_params = tparams;
        params = ps;
        list = listed;
        result = a;
        pre = pre;
        measure = m;
        body = e;
        post = p;
      }))) b after_item)
  def_read {ws = ws} {xs = xs} {ys = ys} {tparams = tparams} {listed = listed} {ps = ps} {a = a} {pre = pre} {m =
      m} {e = e} {p = p} n c q is tp pl is_c r is_q body end_it =
      let h : Head = head_of text n (onto tparams []) listed (onto ps []) in
      let f : List Frame = header of_def h ∷ [] in
      head_read of_def n is tp pl (ap goes_on is_c) ∙ take_step text d b c ws f after_params _ is_c
      ∙ reaches_type text d b r (result_type ∷ f) (ap goes_on is_q)
      ∙ take_step text d b q xs (result_type ∷ f) (have_type a) _ is_q
      ∙ reaches_body text d b h a body end_it
      ∙ ap (λ (x : DeclTree). run text ys (between (with_decl d x) b after_item)) (def_parts n tparams listed ps a
      pre m e p)

  -- ---- classes

  class_parts : (n : Token) (tparams : List Word) (listed : Bool) (ps : List ParamTree) (q : Option TypeTree)
      → class_tree (head_of text n (onto tparams []) listed (onto ps [])) q
      ≡ record { at = n.from; name = word text n; params = tparams; fields = ps; parent = q; object = false }
  class_parts n tparams listed ps q =
      let f : List Word → List ParamTree → ClassTree = λ x y. record {
        at = n.from;
        name = word text n;
        params = x;
        fields = y;
        parent = q;
        object = false;
      } in
      ap (λ x. f x (onto (onto ps []) [])) (onto_twice tparams) ∙ ap (λ y. f tparams y) (onto_twice ps)

  no_parent_step : (t : Token) (sealed case trait : Bool) (h : Head) (k : TokenKind) → ends_item k ≡ true
      → on_class_params text t [] sealed case trait h k ≡ ends (class_decl sealed case trait (class_tree h None))
  no_parent_step t sealed case trait h (Reserve Extends) is = absurd (cc)
  no_parent_step t sealed case trait h _ is = refl

  parent_ended : (us : List Token) (a : TypeTree) → ItemEnds us → (sealed case trait : Bool) (h : Head)
      → Run text d b us (parent_type ∷ header (of_class sealed case trait) h ∷ []) (have_type a)
      ≡ run text us (between (with_decl d (class_decl sealed case trait (class_tree h (Some a)))) b after_item)
  parent_ended [] a e sealed case trait h = absurd e
  parent_ended (t ∷ us) a e sealed case trait h = refl

  parent_read : {us vs : List Token} {q : Option TypeTree} → IsParent text us vs q → ItemEnds vs
      → (sealed case trait : Bool)
      (h : Head) → Run text d b us (header (of_class sealed case trait) h ∷ []) after_params
      ≡ run text vs (between (with_decl d (class_decl sealed case trait (class_tree h q))) b after_item)
  parent_read {us = []} no_parent e sealed case trait h = absurd e
  parent_read {us = t ∷ us} no_parent e sealed case trait h = go_on text d b t us _ _ (no_parent_step t sealed case
      trait h t.kind e)
  parent_read {vs = vs} (parent {ts = ts} {t = a} x is r) e sealed case trait h =
      let f : List Frame = header (of_class sealed case trait) h ∷ [] in
      take_step text d b x ts f after_params _ is ∙ reaches_type text d b r (parent_type ∷ f) (item_end vs e)
      ∙ parent_ended vs a e sealed case trait h

  -- what may stand behind the parameters of a class
  parent_ends : {us vs : List Token} {q : Option TypeTree} → IsParent text us vs q → ItemEnds vs → Ends us
  parent_ends {us = us} no_parent e = item_end us e
  parent_ends (parent x is r) e = ap goes_on is

  pub class_read : {us vs ws xs : List Token} {tparams : List Word} {listed : Bool} {ps : List ParamTree}
      {q : Option TypeTree} (sealed case trait : Bool) (n : Token) → n.kind ≡ Name → IsTypeParams text us vs tparams
      → IsParamList text vs ws listed ps → IsParent text ws xs q → ItemEnds xs
      → Run text d b (n ∷ us) [] (want_name (of_class sealed case trait))
      ≡ run text xs (between (with_decl d (class_decl sealed case trait (record {
        at = n.from;
        name = word text n;
        params = tparams;
        fields = ps;
        parent = q;
        object = false;
      }))) b after_item)
  class_read {xs = xs} {tparams = tparams} {listed = listed} {ps = ps} {q = q} sealed case trait n is tp pl pa e =
      let h : Head = head_of text n (onto tparams []) listed (onto ps []) in
      head_read (of_class sealed case trait) n is tp pl (parent_ends pa e) ∙ parent_read pa e sealed case trait h
      ∙ ap (λ (x : ClassTree). run text xs (between (with_decl d (class_decl sealed case trait x)) b after_item))
      (class_parts n tparams listed ps q)

  object_ended : (us : List Token) (at : ℕ) (w : Word) (a : TypeTree) → ItemEnds us
      → Run text d b us (object_parent at w ∷ []) (have_type a)
      ≡ run text us (between (with_decl d (object_tree at w a)) b after_item)
  object_ended [] at w a e = absurd e
  object_ended (t ∷ us) at w a e = refl

  pub object_read : {us vs : List Token} {a : TypeTree} (n x : Token) → n.kind ≡ Name → x.kind ≡ Reserve Extends
      → IsType text us vs a → ItemEnds vs → Run text d b (n ∷ x ∷ us) [] want_object_name
      ≡ run text vs (between (with_decl d (object_tree n.from (word text n) a)) b after_item)
  object_read {us = us} {vs = vs} {a = a} n x is is_x r e =
      take_step text d b n (x ∷ us) [] want_object_name _ is
      ∙ take_step text d b x us [] (after_object_name n.from (word text n)) _ is_x
      ∙ reaches_type text d b r (object_parent n.from (word text n) ∷ []) (item_end vs e)
      ∙ object_ended vs n.from (word text n) a e

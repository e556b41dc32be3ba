-- The automaton reads each body that is spelled.
use Rattle.pp_grammar.specs.Automaton.{on_mode, run}
use Rattle.pp_grammar.specs.Bodies.{IsBody, IsClosed, IsHead, IsPost, block_alone, closed_block, closed_matched}
use Rattle.pp_grammar.specs.Bodies.{closed_simple, dot_ensuring, dot_holds, ensuring, expr_alone, head_block}
use Rattle.pp_grammar.specs.Bodies.{head_infix, head_matched, holding_at, holds, post_at}
use Rattle.pp_grammar.specs.Exprs.{IsExpr, IsInfix, IsMatched, IsPrimary, IsRest, at_types, at_types_on_arguments}
use Rattle.pp_grammar.specs.Exprs.{block, bound, false_word, in_block, in_round, name_alone, number, on_arguments}
use Rattle.pp_grammar.specs.Exprs.{true_word}
use Rattle.pp_grammar.specs.Frames.{Contracts, Frame, Head, Mode, Parsed, State, after_body, after_contracted_dot}
use Rattle.pp_grammar.specs.Frames.{after_dot, after_item, after_matched_dot, between, body_of, braces, ends, have}
use Rattle.pp_grammar.specs.Frames.{have_contracted, have_matched, head_braces, want, want_body}
use Rattle.pp_grammar.specs.Joining.{Operand, above, def_tree, no_contracts, onto, with_decl}
use Rattle.pp_grammar.specs.StepBodies.{on_contracted_name, on_have_contracted, on_want_body}
use Rattle.pp_grammar.specs.StepExprs.{on_dot_name, on_have, on_operand, on_post_operand, on_post_word, on_unwound}
use Rattle.pp_grammar.specs.StepExprs.{on_want}
use Rattle.pp_grammar.specs.Words.{Role, ensuring_word, holds_word, loosest, number_of, plain, role, word}
use Rattle.pp_grammar_complete.proofs.ExprSteps.{Ended, end_rest_step, ends_rest}
use Rattle.pp_grammar_complete.proofs.Leftmost.{BeginsSame, Same, same_closed, same_expr, same_infix, same_matched}
use Rattle.pp_grammar_complete.proofs.ReachContracts.{BlockRead, block_contracts, block_plain, reaches_block}
use Rattle.pp_grammar_complete.proofs.ReachExprs.{reaches_expr, reaches_infix, reaches_matched, reaches_rest}
use Rattle.pp_grammar_complete.proofs.ReachExprs.{reaches_simple}
use Rattle.pp_grammar_complete.proofs.ReachPosts.{reaches_post}
use Rattle.pp_grammar_complete.proofs.Steps.{Closes, Go, Run, closes, go_on, goes_on, goes_on_operand, take_step}
use Rattle.pp_tokens.specs.declared.token.Bracket.TheVariants.{CloseBrace, Dot, OpenBrace, Semicolon}
use Rattle.pp_tokens.specs.declared.token.Token.{Token}
use Rattle.pp_tokens.specs.declared.token.TokenKind.{TokenKind}
use Rattle.pp_tokens.specs.declared.token.TokenKind.TheVariants.{Hex, Mark, Name, Newline, Number}
use Rattle.pp_tree.specs.Plain.{DeclTree, PostTree, Tree, TypeTree, Word, def}
use Rattle.std.proofs.Common.{Bool, List, None, Option, Some, [], ap, arith, false, inl, inr, refl, sym, true, ℤ, ◌∙◌}
use Rattle.std.proofs.Common.{◌∷◌, ◌≡◌, ◌⊎◌}

-- the tokens that end a function
abbrev pub ends_member : TokenKind → Bool
ends_member Newline = true
ends_member (Mark Semicolon) = true
ends_member (Mark CloseBrace) = true
ends_member _ = false

abbrev pub MemberEnds : List Token → Type 0
MemberEnds [] = ⊥
MemberEnds (t ∷ ts) = ends_member t.kind ≡ true

member_closes_by : (k : TokenKind) → ends_member k ≡ true → closes k ≡ true
member_closes_by Newline is = refl
member_closes_by (Mark Semicolon) is = refl
member_closes_by (Mark CloseBrace) is = refl
member_closes_by _ is = absurd (cc)

member_closes : (ts : List Token) → MemberEnds ts → Closes ts
member_closes [] m = m
member_closes (t ∷ ts) m = member_closes_by t.kind m

-- the function of a head with these contracts
abbrev pub def_of_parts : Head → TypeTree → List Tree → List Tree → Tree → Option PostTree → DeclTree
def_of_parts h a pre m e p = def (record {
  at = h.at;
  name = h.name;
  type_params = onto h.type_params [];
  params = onto h.params [];
  list = h.listed;
  result = a;
  pre = pre;
  measure = m;
  body = e;
  post = p;
})

module _ (text : Word) (d : Parsed) (b : Bool) (h : Head) (a : TypeTree) where
  -- the function's frame, where no contract is read
  abbrev pub Body : List Frame
  Body = body_of h a no_contracts ∷ []

  -- behind the function
  abbrev pub Defined : List Token → DeclTree → State
  Defined us x = run text us (between (with_decl d x) b after_item)

  same_at : (t : Token) (us : List Token) (m n : Mode) (k : TokenKind) → t.kind ≡ k
      → on_mode text t Body m k ≡ on_mode text t Body n k → Run text d b (t ∷ us) Body m ≡ Run text d b (t ∷ us)
      Body n
  same_at t us m n k is e =
      take_step text d b t us Body m k is ∙ go_on text d b t us _ _ e ∙ sym (take_step text d b t us Body n k is)

  body_number : (t : Token) (n : ℤ) (k : TokenKind) → number_of k ≡ Some n
      → on_want_body text t Body k ≡ on_want text t Body k
  body_number t n (Number j) is = refl
  body_number t n (Hex j) is = refl
  body_number t n _ is = absurd (cc)

  block_primary : {ts us : List Token} {e : Tree} (o p : Token) → o.kind ≡ Mark OpenBrace → IsRest text ts (p ∷ us) e
      → p.kind ≡ Mark CloseBrace → Same text d b want_body Body (o ∷ ts)
  block_primary {ts = ts} {us = us} {e = e} o p is r is_p =
      take_step text d b o ts Body want_body _ is
      ∙ (reaches_rest text d b r).reach (head_braces no_contracts ∷ Body) refl (ap ends_rest is_p)
      ∙ end_rest_step text d b p us (head_braces no_contracts ∷ Body) e _ is_p
      ∙ sym (take_step text d b o ts Body want _ is
      ∙ (reaches_rest text d b r).reach (braces ∷ Body) refl (ap ends_rest is_p)
      ∙ end_rest_step text d b p us (braces ∷ Body) e _ is_p)

  body_primary : {ts us : List Token} {e : Tree} → IsPrimary text ts us e → Same text d b want_body Body ts
  body_primary {us = us} (number {n = n} t is) = go_on text d b t us _ _ (body_number t n t.kind is)
  body_primary {us = us} (true_word t is) = same_at t us want_body want _ is refl
  body_primary {us = us} (false_word t is) = same_at t us want_body want _ is refl
  body_primary {us = us} (bound i dot t is r is_d is_t e) = same_at i (dot ∷ t ∷ us) want_body want _ is refl
  body_primary {us = us} (name_alone t is r) = same_at t us want_body want _ is refl
  body_primary (at_types {ts = ts} t o is r is_o tys) = same_at t (o ∷ ts) want_body want _ is refl
  body_primary (on_arguments {ts = ts} t is r es) = same_at t ts want_body want _ is refl
  body_primary (at_types_on_arguments {ts = ts} t o is r is_o tys es) = same_at t (o ∷ ts) want_body want _ is refl
  body_primary (in_round {ts = ts} o c is r is_c) = same_at o ts want_body want _ is refl
  body_primary (in_block (block o c is r is_c)) = block_primary o c is r is_c

  body_same : BeginsSame text d b want_body Body
  body_same = record {
    at_operator = λ t us o is. same_at t us want_body want _ is refl;
    at_if = λ t us is. same_at t us want_body want _ is refl;
    at_primary = body_primary;
  }

  -- ---- up to `ensuring` and `holds`

  -- at the word w, behind what is claimed of
  pub record ReadyForPost (ts : List Token) (w : Token) (us : List Token) (r : Role) (pre m : List Tree) (e : Tree)
      : Type 0 where
    pub contracts : Contracts
    pub requirements_are : onto contracts.requirements [] ≡ pre
    pub measure_is : contracts.measure ≡ m
    pub steps : Run text d b ts Body want_body ≡ Go text d b w us (on_post_word text w (body_of h a contracts ∷ [])
        e false r)

  ready_plain : {ts us : List Token} {e : Tree} (w : Token) (r : Role)
      → Run text d b ts Body want_body ≡ Go text d b w us (on_post_word text w Body e false r)
      → ReadyForPost ts w us r [] [] e
  ready_plain w r steps = record {
    contracts = no_contracts;
    requirements_are = refl;
    measure_is = refl;
    steps =
        steps;
  }

  head_of_infix : {ts us : List Token} {e : Tree} (w : Token) (r : Role) → IsInfix text loosest ts (w ∷ us) e
      → w.kind ≡ Name
      → role (word text w) ≡ r → ReadyForPost ts w us r [] [] e
  head_of_infix {us = us} {e = e} w r x is is_r =
      let g = (reaches_infix text d b x).reach Body (omega arith) (ap goes_on_operand is) in
      ready_plain w r
      (same_infix text d b want_body Body body_same x ∙ g.steps
      ∙ ap (λ k. Go text d b w us (on_operand text w g.frames g.tree g.holed k)) is
      ∙ ap (λ (u : Operand). Go text d b w us (on_post_operand text w u)) (g.unwinds loosest (omega arith))
      ∙ ap (λ y. Go text d b w us (on_post_word text w Body e false y)) is_r)

  head_of_matched : {ts us : List Token} {e : Tree} (w : Token) (r : Role) → IsMatched text ts (w ∷ us) e
      → w.kind ≡ Name
      → role (word text w) ≡ r → ReadyForPost ts w us r [] [] e
  head_of_matched {us = us} {e = e} w r x is is_r =
      ready_plain w r
      (same_matched text d b want_body Body body_same x ∙ (reaches_matched text d b x).reach Body (omega arith)
      ∙ take_step text d b w us Body (have_matched e) _ is
      ∙ ap (λ y. Go text d b w us (on_post_word text w Body e false y)) is_r)

  head_of_block : {ts us : List Token} {pre m : List Tree} {e : Tree} (w : Token) (r : Role)
      → BlockRead text d b ts (w ∷ us) h a pre m e → w.kind ≡ Name → role (word text w) ≡ r
      → ReadyForPost ts w us r pre m e
  head_of_block {us = us} {e = e} w r (block_plain steps) is is_r =
      ready_plain w r
      (steps ∙ take_step text d b w us Body (have e false) _ is
      ∙ ap (λ y. Go text d b w us (on_post_word text w Body e false y)) is_r)
  head_of_block {us = us} {e = e} w r (block_contracts c reqs meas steps) is is_r = record {
    contracts = c;
    requirements_are = reqs;
    measure_is = meas;
    steps = steps ∙ take_step text d b w us (body_of h a c ∷ []) (have_contracted e) _ is
        ∙ ap (λ y. Go text d b w us (on_post_word text w (body_of h a c ∷ []) e false y)) is_r;
  }

  reaches_head : {ts us : List Token} {pre m : List Tree} {e : Tree} (w : Token) (r : Role)
      → IsHead text ts (w ∷ us) pre m e
      → w.kind ≡ Name → role (word text w) ≡ r → ReadyForPost ts w us r pre m e
  reaches_head w r (head_infix x) is is_r = head_of_infix w r x is is_r
  reaches_head w r (head_matched x) is is_r = head_of_matched w r x is is_r
  reaches_head w r (head_block x) is is_r = head_of_block w r (reaches_block text d b x h a) is is_r

  -- a role of a postcondition
  abbrev IsPostRole : Role → Type 0
  IsPostRole r = (r ≡ ensuring_word) ⊎ (r ≡ holds_word)

  dot_name_step : (w : Token) (s : List Frame) (e : Tree) (r : Role) → IsPostRole r
      → on_dot_name text w s e false r ≡ on_post_word text w s e false r
  dot_name_step w s e plain (inl is) = absurd (cc)
  dot_name_step w s e plain (inr is) = absurd (cc)
  dot_name_step w s e _ is = refl

  contracted_name_step : (w : Token) (s : List Frame) (e : Tree) (r : Role) → IsPostRole r
      → on_contracted_name text w s e r ≡ on_post_word text w s e false r
  contracted_name_step w s e ensuring_word is = refl
  contracted_name_step w s e holds_word is = refl
  contracted_name_step w s e _ (inl is) = absurd (cc)
  contracted_name_step w s e _ (inr is) = absurd (cc)

  have_dot : (us : List Token) (e : Tree) (dot w : Token) (r : Role) → dot.kind ≡ Mark Dot → w.kind ≡ Name
      → role (word text w) ≡ r → IsPostRole r
      → Run text d b (dot ∷ w ∷ us) Body (have e false) ≡ Go text d b w us (on_post_word text w Body e false r)
  have_dot us e dot w r is_d is is_r post =
      take_step text d b dot (w ∷ us) Body (have e false) _ is_d ∙ take_step text d b w us Body (after_dot e false)
      _ is
      ∙ ap (λ y. Go text d b w us (on_dot_name text w Body e false y)) is_r
      ∙ go_on text d b w us _ _ (dot_name_step w Body e r post)

  closed_of_block : {ts us : List Token} {pre m : List Tree} {e : Tree} (dot w : Token) (r : Role)
      → BlockRead text d b ts (dot ∷ w ∷ us) h a pre m e → dot.kind ≡ Mark Dot → w.kind ≡ Name
      → role (word text w) ≡ r → IsPostRole r → ReadyForPost ts w us r pre m e
  closed_of_block {us = us} {e = e} dot w r (block_plain steps) is_d is is_r post =
      ready_plain w r (steps ∙ have_dot us e dot w r is_d is is_r post)
  closed_of_block {us = us} {e = e} dot w r (block_contracts c reqs meas steps) is_d is is_r post =
      let f : List Frame = body_of h a c ∷ [] in
      record {
        contracts = c;
        requirements_are = reqs;
        measure_is = meas;
        steps = steps ∙ take_step text d b dot (w ∷ us) f (have_contracted e) _ is_d
            ∙ take_step text d b w us f (after_contracted_dot e) _ is
            ∙ ap (λ y. Go text d b w us (on_contracted_name text w f e y)) is_r
            ∙ go_on text d b w us _ _ (contracted_name_step w f e r post);
      }

  reaches_closed : {ts us : List Token} {pre m : List Tree} {e : Tree} (dot w : Token) (r : Role)
      → IsClosed text ts (dot ∷ w ∷ us) pre m e → dot.kind ≡ Mark Dot → w.kind ≡ Name → role (word text w) ≡ r
      → IsPostRole r → ReadyForPost ts w us r pre m e
  reaches_closed {us = us} {e = e} dot w r (closed_simple x) is_d is is_r post =
      ready_plain w r
      (same_closed text d b want_body Body body_same x ∙ (reaches_simple text d b x).reach Body (ap goes_on is_d)
      ∙ have_dot us e dot w r is_d is is_r post)
  reaches_closed {us = us} {e = e} dot w r (closed_matched x) is_d is is_r post =
      ready_plain w r
      (same_matched text d b want_body Body body_same x ∙ (reaches_matched text d b x).reach Body (omega arith)
      ∙ take_step text d b dot (w ∷ us) Body (have_matched e) _ is_d
      ∙ take_step text d b w us Body (after_matched_dot e) _ is
      ∙ ap (λ y. Go text d b w us (on_post_word text w Body e false y)) is_r)
  reaches_closed dot w r (closed_block x) is_d is is_r post =
      closed_of_block dot w r (reaches_block text d b x h a) is_d is is_r post

  -- ---- whole bodies

  parts_are : (us : List Token) (c : Contracts) (pre m : List Tree) (e : Tree) (p : Option PostTree)
      → onto c.requirements [] ≡ pre → c.measure ≡ m → Defined us (def_tree h a c e p) ≡ Defined us (def_of_parts h
      a pre m e p)
  parts_are us c pre m e p reqs meas =
      ap (λ (x : List Tree). Defined us (def_of_parts h a x c.measure e p)) reqs
      ∙ ap (λ (x : List Tree). Defined us (def_of_parts h a pre x e p)) meas

  -- a function ends behind its postcondition
  body_ends : (us : List Token) (c : Contracts) (e : Tree) (p : Option PostTree) → MemberEnds us
      → Run text d b us (body_of h a c ∷ []) (after_body e p) ≡ Defined us (def_tree h a c e p)
  body_ends [] c e p m = absurd m
  body_ends (t ∷ us) c e p m = refl

  end_step : (t : Token) (e : Tree) (k : TokenKind) → ends_member k ≡ true
      → on_unwound text t (above Body e false) k ≡ ends (def_tree h a no_contracts e None)
  end_step t e Newline is = refl
  end_step t e (Mark Semicolon) is = refl
  end_step t e (Mark CloseBrace) is = refl
  end_step t e _ is = absurd (cc)

  expr_ends : (us : List Token) (e : Tree) → MemberEnds us
      → Ended text d b us (above Body e false) ≡ Defined us (def_tree h a no_contracts e None)
  expr_ends [] e m = absurd m
  expr_ends (t ∷ us) e m = go_on text d b t us _ _ (end_step t e t.kind m)

  have_end_step : (t : Token) (e : Tree) (k : TokenKind) → ends_member k ≡ true
      → on_have text t Body e false k ≡ ends (def_tree h a no_contracts e None)
  have_end_step t e Newline is = refl
  have_end_step t e (Mark Semicolon) is = refl
  have_end_step t e (Mark CloseBrace) is = refl
  have_end_step t e _ is = absurd (cc)

  have_ends : (us : List Token) (e : Tree) → MemberEnds us
      → Run text d b us Body (have e false) ≡ Defined us (def_tree h a no_contracts e None)
  have_ends [] e m = absurd m
  have_ends (t ∷ us) e m = go_on text d b t us _ _ (have_end_step t e t.kind m)

  contracted_end_step : (t : Token) (c : Contracts) (e : Tree) (k : TokenKind) → ends_member k ≡ true
      → on_have_contracted text t (body_of h a c ∷ []) e k ≡ ends (def_tree h a c e None)
  contracted_end_step t c e Newline is = refl
  contracted_end_step t c e (Mark Semicolon) is = refl
  contracted_end_step t c e (Mark CloseBrace) is = refl
  contracted_end_step t c e _ is = absurd (cc)

  contracted_ends : (us : List Token) (c : Contracts) (e : Tree) → MemberEnds us
      → Run text d b us (body_of h a c ∷ []) (have_contracted e) ≡ Defined us (def_tree h a c e None)
  contracted_ends [] c e m = absurd m
  contracted_ends (t ∷ us) c e m = go_on text d b t us _ _ (contracted_end_step t c e t.kind m)

  block_ends : {ts us : List Token} {pre m : List Tree} {e : Tree} → BlockRead text d b ts us h a pre m e
      → MemberEnds us
      → Run text d b ts Body want_body ≡ Defined us (def_of_parts h a pre m e None)
  block_ends {us = us} {e = e} (block_plain steps) end_it = steps ∙ have_ends us e end_it
  block_ends {us = us} {pre = pre} {m = m} {e = e} (block_contracts c reqs meas steps) end_it =
      steps ∙ contracted_ends us c e end_it ∙ parts_are us c pre m e None reqs meas

  ensuring_ends : {ts us vs : List Token} {pre m : List Tree} {e claim : Tree} {n : Word} {t : Option TypeTree} (w
      : Token)
      → ReadyForPost ts w us ensuring_word pre m e → IsPost text us vs n t claim → MemberEnds vs
      → Run text d b ts Body want_body ≡ Defined vs (def_of_parts h a pre m e (post_at w n t claim))
  ensuring_ends {us = us} {vs = vs} {pre = pre} {m = m} {e = e} {claim = claim} {n = n} {t = t} w x p end_it =
      let f : List Frame = body_of h a x.contracts ∷ [] in
      x.steps ∙ reaches_post text d b p f w.from e ∙ body_ends vs x.contracts e (post_at w n t claim) end_it
      ∙ parts_are vs x.contracts pre m e (post_at w n t claim) x.requirements_are x.measure_is

  holds_ends : {ts us : List Token} {pre m : List Tree} {e : Tree} (w : Token)
      → ReadyForPost ts w us holds_word pre m e
      → MemberEnds us → Run text d b ts Body want_body ≡ Defined us (def_of_parts h a pre m e (holding_at w))
  holds_ends {us = us} {pre = pre} {m = m} {e = e} w x end_it =
      x.steps ∙ body_ends us x.contracts e (holding_at w) end_it
      ∙ parts_are us x.contracts pre m e (holding_at w) x.requirements_are x.measure_is

  expr_body : {ts us : List Token} {e : Tree} → IsExpr text ts us e → MemberEnds us
      → Run text d b ts Body want_body ≡ Defined us (def_of_parts h a [] [] e None)
  expr_body {us = us} {e = e} r end_it =
      same_expr text d b want_body Body body_same r ∙ (reaches_expr text d b r).reach Body (omega arith)
      (member_closes us end_it)
      ∙ expr_ends us e end_it

  pub reaches_body : {ts us : List Token} {pre m : List Tree} {e : Tree} {p : Option PostTree}
      → IsBody text ts us pre m e p
      → MemberEnds us → Run text d b ts Body want_body ≡ Defined us (def_of_parts h a pre m e p)
  reaches_body (ensuring w head is r p) end_it = ensuring_ends w (reaches_head w ensuring_word head is r) p end_it
  reaches_body (holds w head is r) end_it = holds_ends w (reaches_head w holds_word head is r) end_it
  reaches_body (dot_ensuring dot w closed is_d is r p) end_it =
      ensuring_ends w (reaches_closed dot w ensuring_word closed is_d is r (inl refl)) p end_it
  reaches_body (dot_holds dot w closed is_d is r) end_it =
      holds_ends w (reaches_closed dot w holds_word closed is_d is r (inr refl)) end_it
  reaches_body (expr_alone r) end_it = expr_body r end_it
  reaches_body (block_alone r) end_it = block_ends (reaches_block text d b r h a) end_it

-- The automaton reads each postcondition that is spelled.
use Rattle.pp_grammar.specs.Bodies.{IsHole, IsLambda, IsPost, hole, hole_on_left, hole_on_right, looser_hole, of_hole}
use Rattle.pp_grammar.specs.Bodies.{of_name, of_name_in_round, of_typed_name, post_in_braces, post_in_round}
use Rattle.pp_grammar.specs.Bodies.{prefixed_hole}
use Rattle.pp_grammar.specs.Exprs.{IsExpr}
use Rattle.pp_grammar.specs.Frames.{Frame, Move, Parsed, State, after_body, after_claim, after_ensuring}
use Rattle.pp_grammar.specs.Frames.{after_lambda_closed, after_lambda_name, after_lambda_round, after_lambda_round_name}
use Rattle.pp_grammar.specs.Frames.{after_lambda_typed, claiming, claiming_hole, go, have_type, in_braces}
use Rattle.pp_grammar.specs.Frames.{in_parentheses, post_of, result_name_type, result_name_type_in_round, want}
use Rattle.pp_grammar.specs.Frames.{want_lambda, want_lambda_or_semi}
use Rattle.pp_grammar.specs.Joining.{above}
use Rattle.pp_grammar.specs.StepBodies.{on_after_claim, on_want_lambda, on_want_lambda_or_semi}
use Rattle.pp_grammar.specs.StepExprs.{on_claim_brace, on_claim_round, on_claim_semi, on_unwound}
use Rattle.pp_grammar.specs.Types.{IsAscription, IsGap, ascribed, no_semi, no_type, one_semi}
use Rattle.pp_grammar.specs.Words.{Role, is_semi, loosest, res, role, word}
use Rattle.pp_grammar_complete.proofs.ExprSteps.{Ended, next_ended}
use Rattle.pp_grammar_complete.proofs.ReachExprs.{reaches_expr}
use Rattle.pp_grammar_complete.proofs.ClaimEnds.{ClaimEnds, claim_closes, ends_claim}
use Rattle.pp_grammar_complete.proofs.ReachHoles.{lambda_hole, reaches_hole}
use Rattle.pp_grammar_complete.proofs.ReachTypes.{reaches_type}
use Rattle.pp_grammar_complete.proofs.Starts.{Starts, infix_starts, starts_with}
use Rattle.pp_grammar_complete.proofs.Steps.{Go, Run, closes_follows, go_on, goes_on, take_step}
use Rattle.pp_tokens.specs.declared.token.Bracket.TheVariants.{CloseBrace, CloseRound, Semicolon}
use Rattle.pp_tokens.specs.declared.token.Operator.TheVariants.{Arrow}
use Rattle.pp_tokens.specs.declared.token.Token.{Token}
use Rattle.pp_tokens.specs.declared.token.TokenKind.{TokenKind}
use Rattle.pp_tokens.specs.declared.token.TokenKind.TheVariants.{Mark, Newline, Op}
use Rattle.pp_tree.specs.Plain.{Tree, TypeTree, Word}
use Rattle.std.proofs.Common.{Bool, List, None, Option, Some, [], ap, arith, false, refl, true, ℕ, ◌∙◌, ◌∷◌, ◌≡◌}

module _ (text : Word) (d : Parsed) (b : Bool) where
  -- ---- lambdas

  -- a claim ends at a token
  abbrev pub on_claim_end : Token → List Frame → Word → Option TypeTree → Tree → TokenKind → Move
  on_claim_end t s w a e (Mark CloseRound) = on_claim_round text t s w a e
  on_claim_end t s w a e (Mark CloseBrace) = on_claim_brace text t s w a e
  on_claim_end t s w a e k = on_claim_semi text t s w a e

  abbrev pub ClaimEnd : List Token → List Frame → Word → Option TypeTree → Tree → State
  ClaimEnd [] s w a e = Run text d b [] s (after_claim w a e)
  ClaimEnd (t ∷ ts) s w a e = Go text d b t ts (on_claim_end t s w a e t.kind)

  claim_step : (t : Token) (s : List Frame) (w : Word) (a : Option TypeTree) (e : Tree) (k : TokenKind)
      → ends_claim k ≡ true → on_unwound text t (above (claiming w a ∷ s) e false) k ≡ on_claim_end t s w a e k
  claim_step t s w a e (Mark CloseRound) is = refl
  claim_step t s w a e (Mark CloseBrace) is = refl
  claim_step t s w a e (Mark Semicolon) is = refl
  claim_step t s w a e Newline is = refl
  claim_step t s w a e _ is = absurd (cc)

  claim_ended : (us : List Token) (s : List Frame) (w : Word) (a : Option TypeTree) (e : Tree) → ClaimEnds us
      → Ended text d b us (above (claiming w a ∷ s) e false) ≡ ClaimEnd us s w a e
  claim_ended [] s w a e c = absurd c
  claim_ended (t ∷ us) s w a e c = go_on text d b t us _ _ (claim_step t s w a e t.kind c)

  hole_claim_step : (t : Token) (s : List Frame) (e : Tree) (k : TokenKind)
      → ends_claim k ≡ true → on_unwound text t (above (claiming_hole ∷ s) e true) k ≡ on_claim_end t s res None e k
  hole_claim_step t s e (Mark CloseRound) is = refl
  hole_claim_step t s e (Mark CloseBrace) is = refl
  hole_claim_step t s e (Mark Semicolon) is = refl
  hole_claim_step t s e Newline is = refl
  hole_claim_step t s e _ is = absurd (cc)

  hole_claim_ended : (us : List Token) (s : List Frame) (e : Tree) → ClaimEnds us
      → Ended text d b us (above (claiming_hole ∷ s) e true) ≡ ClaimEnd us s res None e
  hole_claim_ended [] s e c = absurd c
  hole_claim_ended (t ∷ us) s e c = go_on text d b t us _ _ (hole_claim_step t s e t.kind c)

  claim_reached : {ts us : List Token} {e : Tree} → IsExpr text ts us e → (s : List Frame) (w : Word)
      (a : Option TypeTree) → ClaimEnds us
      → Run text d b ts (claiming w a ∷ s) want ≡ ClaimEnd us s w a e
  claim_reached {us = us} {e = e} r s w a c =
      (reaches_expr text d b r).reach (claiming w a ∷ s) (omega arith) (claim_closes us c) ∙ claim_ended us s w a e c

  hole_reached : {ts us : List Token} {e : Tree} → IsHole text loosest ts us e → (s : List Frame) → ClaimEnds us
      → Run text d b ts s want_lambda ≡ ClaimEnd us s res None e
  hole_reached {us = us} {e = e} r s c =
      let h = (reaches_hole text d b r).reach (claiming_hole ∷ s) (omega arith) refl (closes_follows us
      (claim_closes us c)) in
      lambda_hole text d b s r ∙ h.steps ∙ next_ended text d b us h.frames h.tree h.holed (claim_closes us c)
      ∙ ap (Ended text d b us) (h.unwinds 0 (omega arith)) ∙ hole_claim_ended us s e c

  in_round_reached : {ts us : List Token} {t : Option TypeTree} (n c a : Token) → IsAscription text ts (c ∷ a ∷ us) t
      → c.kind ≡ Mark CloseRound → a.kind ≡ Op Arrow → (s : List Frame)
      → Run text d b ts s (after_lambda_round_name n.from (word text n)) ≡ Run text d b us (claiming (word text n)
      t ∷ s) want
  in_round_reached {us = us} n c a no_type is_c is_a s =
      take_step text d b c (a ∷ us) s (after_lambda_round_name n.from (word text n)) _ is_c
      ∙ take_step text d b a us s (after_lambda_closed n.from (word text n)) _ is_a
  in_round_reached {us = us} n c a (ascribed {ts = ts} {a = ty} x is_x r) is_c is_a s =
      take_step text d b x ts s (after_lambda_round_name n.from (word text n)) _ is_x
      ∙ reaches_type text d b r (result_name_type_in_round (word text n) ∷ s) (ap goes_on is_c)
      ∙ take_step text d b c (a ∷ us) (result_name_type_in_round (word text n) ∷ s) (have_type ty) _ is_c
      ∙ take_step text d b a us s (after_lambda_typed (word text n) ty) _ is_a

  pub reaches_lambda : {ts us : List Token} {w : Word} {t : Option TypeTree} {e : Tree} → IsLambda text ts us w t e
      → (s : List Frame) → ClaimEnds us → Run text d b ts s want_lambda ≡ ClaimEnd us s w t e
  reaches_lambda (of_name {ts = ts} n a is is_a r) s c =
      take_step text d b n (a ∷ ts) s want_lambda _ is
      ∙ take_step text d b a ts s (after_lambda_name n.from (word text n)) _ is_a
      ∙ claim_reached r s (word text n) None c
  reaches_lambda (of_name_in_round {ts = ts} {t = t} o n p a is_o is asc is_p is_a r) s c =
      take_step text d b o (n ∷ ts) s want_lambda _ is_o ∙ take_step text d b n ts s after_lambda_round _ is
      ∙ in_round_reached n p a asc is_p is_a s ∙ claim_reached r s (word text n) t c
  reaches_lambda (of_typed_name {ts = ts} {us = us} {t = t} n p a is is_p ty is_a r) s c =
      take_step text d b n (p ∷ ts) s want_lambda _ is
      ∙ take_step text d b p ts s (after_lambda_name n.from (word text n)) _ is_p
      ∙ reaches_type text d b ty (result_name_type (word text n) ∷ s) (ap goes_on is_a)
      ∙ take_step text d b a us (result_name_type (word text n) ∷ s) (have_type t) _ is_a
      ∙ claim_reached r s (word text n) (Some t) c
  reaches_lambda (of_hole r) s c = hole_reached r s c

  -- ---- postconditions

  abbrev NoSemi : List Token → Type 0
  NoSemi [] = ⊥
  NoSemi (t ∷ ts) = is_semi t.kind ≡ false

  start_is_no_semi : (k : TokenKind) (r : Role) → starts_with k r ≡ true → is_semi k ≡ false
  start_is_no_semi Newline r is = absurd (cc)
  start_is_no_semi (Mark Semicolon) r is = absurd (cc)
  start_is_no_semi _ r is = refl

  starts_no_semi : (ts : List Token) → Starts text ts → NoSemi ts
  starts_no_semi [] st = st
  starts_no_semi (t ∷ ts) st = start_is_no_semi t.kind (role (word text t)) st

  hole_no_semi : {l : ℕ} {ts us : List Token} {e : Tree} → IsHole text l ts us e → NoSemi ts
  hole_no_semi (looser_hole r) = hole_no_semi r
  hole_no_semi (hole h is g) = ap is_semi is
  hole_no_semi (prefixed_hole t h o op is is_op is_h g) = ap is_semi is
  hole_no_semi (hole_on_left t o op r is is_op q) = hole_no_semi r
  hole_no_semi {ts = ts} (hole_on_right t o op r is is_op q) = starts_no_semi ts (infix_starts text r)

  lambda_no_semi : {ts us : List Token} {w : Word} {t : Option TypeTree} {e : Tree} → IsLambda text ts us w t e
      → NoSemi ts
  lambda_no_semi (of_name n a is is_a r) = ap is_semi is
  lambda_no_semi (of_name_in_round o n p a is_o is asc is_p is_a r) = ap is_semi is_o
  lambda_no_semi (of_typed_name n p a is is_p ty is_a r) = ap is_semi is
  lambda_no_semi (of_hole r) = hole_no_semi r

  semi_or_lambda : (t : Token) (s : List Frame) (k : TokenKind) → is_semi k ≡ false
      → on_want_lambda_or_semi text t s k ≡ on_want_lambda text t s k
  semi_or_lambda t s Newline is = absurd (cc)
  semi_or_lambda t s (Mark Semicolon) is = absurd (cc)
  semi_or_lambda t s _ is = refl

  begins_lambda : (ts : List Token) (s : List Frame) → NoSemi ts
      → Run text d b ts s want_lambda_or_semi ≡ Run text d b ts s want_lambda
  begins_lambda [] s n = absurd n
  begins_lambda (t ∷ ts) s n = go_on text d b t ts _ _ (semi_or_lambda t s t.kind n)

  lambda_semi_step : (t : Token) (s : List Frame) (k : TokenKind) → is_semi k ≡ true
      → on_want_lambda_or_semi text t s k ≡ go s want_lambda_or_semi
  lambda_semi_step t s Newline is = refl
  lambda_semi_step t s (Mark Semicolon) is = refl
  lambda_semi_step t s _ is = absurd (cc)

  lambda_gap : {ts us : List Token} → IsGap ts us → (s : List Frame)
      → Run text d b ts s want_lambda_or_semi ≡ Run text d b us s want_lambda_or_semi
  lambda_gap no_semi s = refl
  lambda_gap (one_semi {ts = ts} t is g) s = go_on text d b t ts _ _ (lambda_semi_step t s t.kind is) ∙ lambda_gap g s

  claim_semi_step : (t : Token) (s : List Frame) (w : Word) (a : Option TypeTree) (e : Tree) (k : TokenKind)
      → is_semi k ≡ true → on_after_claim text t s w a e k ≡ go s (after_claim w a e)
  claim_semi_step t s w a e Newline is = refl
  claim_semi_step t s w a e (Mark Semicolon) is = refl
  claim_semi_step t s w a e _ is = absurd (cc)

  claim_gap : {us vs : List Token} → IsGap us vs → (s : List Frame) (w : Word) (a : Option TypeTree) (e : Tree)
      → Run text d b us s (after_claim w a e) ≡ Run text d b vs s (after_claim w a e)
  claim_gap no_semi s w a e = refl
  claim_gap (one_semi {ts = ts} t is g) s w a e =
      go_on text d b t ts _ _ (claim_semi_step t s w a e t.kind is) ∙ claim_gap g s w a e

  claim_by_semi : (t : Token) (s : List Frame) (w : Word) (a : Option TypeTree) (e : Tree) (k : TokenKind)
      → is_semi k ≡ true → on_claim_end t s w a e k ≡ on_claim_semi text t s w a e
  claim_by_semi t s w a e Newline is = refl
  claim_by_semi t s w a e (Mark Semicolon) is = refl
  claim_by_semi t s w a e _ is = absurd (cc)

  semi_ends_claim : (k : TokenKind) → is_semi k ≡ true → ends_claim k ≡ true
  semi_ends_claim Newline is = refl
  semi_ends_claim (Mark Semicolon) is = refl
  semi_ends_claim _ is = absurd (cc)

  gap_ends_claim : {us vs : List Token} → IsGap us vs → ClaimEnds vs → ClaimEnds us
  gap_ends_claim no_semi c = c
  gap_ends_claim (one_semi t is g) c = semi_ends_claim t.kind is

  -- the state behind a postcondition
  abbrev pub PostEnd : List Token → List Frame → Tree → ℕ → Word → Option TypeTree → Tree → State
  PostEnd us s x at w a e = Run text d b us s (after_body x (Some (record { at = at; name = w; of = a; claim = e })))

  closes_braces : {us : List Token} (p : Token) (vs : List Token) → IsGap us (p ∷ vs) → p.kind ≡ Mark CloseBrace
      → (s : List Frame) (x : Tree) (at : ℕ) (w : Word) (a : Option TypeTree) (e : Tree)
      → ClaimEnd us (post_of at x in_braces ∷ s) w a e ≡ PostEnd vs s x at w a e
  closes_braces p vs no_semi is s x at w a e =
      ap (λ k. Go text d b p vs (on_claim_end p (post_of at x in_braces ∷ s) w a e k)) is
  closes_braces p vs (one_semi {ts = us} t is_t g) is s x at w a e =
      let f : List Frame = post_of at x in_braces ∷ s in
      go_on text d b t us _ _ (claim_by_semi t f w a e t.kind is_t) ∙ claim_gap g f w a e
      ∙ take_step text d b p vs f (after_claim w a e) _ is

  pub reaches_post : {ts us : List Token} {w : Word} {t : Option TypeTree} {e : Tree} → IsPost text ts us w t e
      → (s : List Frame) (at : ℕ) (x : Tree) → Run text d b ts s (after_ensuring at x) ≡ PostEnd us s x at w t e
  reaches_post {us = us} {w = w} {t = t} {e = e} (post_in_round {ts = ts} o p is r is_p) s at x =
      let f : List Frame = post_of at x in_parentheses ∷ s in
      take_step text d b o ts s (after_ensuring at x) _ is ∙ reaches_lambda r f (ap ends_claim is_p)
      ∙ ap (λ k. Go text d b p us (on_claim_end p f w t e k)) is_p
  reaches_post {us = ws} {w = w} {t = t} {e = e} (post_in_braces {ts = ts} {us = us} o p is g r gap is_p) s at x =
      let f : List Frame = post_of at x in_braces ∷ s in
      take_step text d b o ts s (after_ensuring at x) _ is ∙ lambda_gap g f ∙ begins_lambda us f (lambda_no_semi r)
      ∙ reaches_lambda r f (gap_ends_claim gap (ap ends_claim is_p)) ∙ closes_braces p ws gap is_p s x at w t e

-- Each step that ends an expression keeps what the modes say.
use Rattle.pp_grammar.specs.Bodies.{Contract, IsBody, IsContractBlock, IsHole, IsLambda, IsPost, contract_block}
use Rattle.pp_grammar.specs.Bodies.{dot_ensuring, ensuring, expr_alone, last_component, measure, of_hole, post_at}
use Rattle.pp_grammar.specs.Bodies.{post_in_braces, post_in_round, requirement}
use Rattle.pp_grammar.specs.Exprs.{IsExpr, IsGuard, IsPrimary, IsRest, IsSemicolon, IsSimple, IsStats, arguments}
use Rattle.pp_grammar.specs.Exprs.{assert_stat, block, case_of, in_block, in_round, last_case, last_expr, last_of_exprs}
use Rattle.pp_grammar.specs.Exprs.{match_of, no_field, no_semicolon, rest, simple, val_stat}
use Rattle.pp_grammar.specs.Frames.{Contracts, Frame, Head, after_body, claiming_hole}
use Rattle.pp_grammar.specs.Joining.{Operand, def_tree, no_contracts, onto, seal}
use Rattle.pp_grammar.specs.Patterns.{IsPattern}
use Rattle.pp_grammar.specs.StepExprs.{on_claim_brace, on_claim_round, on_claim_semi, on_comma, on_else, on_end}
use Rattle.pp_grammar.specs.StepExprs.{on_expr_end, on_hole_end, on_match_closed, on_next_case, on_round_closed}
use Rattle.pp_grammar.specs.StepExprs.{on_sealed_brace, on_sealed_case, on_semi, on_semicolon, on_unwound}
use Rattle.pp_grammar.specs.Types.{IsGap, no_newlines, no_semi, one_semi, semis}
use Rattle.pp_grammar.specs.Units.{def_of}
use Rattle.pp_grammar.specs.Words.{is_dot, is_semi, loosest, word}
use Rattle.pp_grammar_sound.proofs.Fronts.{cases_behind, cases_more, exprs_behind, front_more, front_none}
use Rattle.pp_grammar_sound.proofs.Fronts.{measure_behind}
use Rattle.pp_grammar_sound.proofs.Modes.{Declares, Moved, Stands, at_after_asserted, at_after_body, at_after_claim}
use Rattle.pp_grammar_sound.proofs.Modes.{at_after_contract, at_after_last, at_after_tuple, at_have, at_have_contracted}
use Rattle.pp_grammar_sound.proofs.Modes.{at_have_matched, at_want, at_want_else, at_want_pattern, at_want_stat}
use Rattle.pp_grammar_sound.proofs.Modes.{at_want_then, declares_def}
use Rattle.pp_grammar_sound.proofs.Opens.{EnsuringAt, FrontContracts, Opens, PostAt, Shaped, Signature, StatAt}
use Rattle.pp_grammar_sound.proofs.Opens.{begins_def, contracts_none, contracts_some, dot_ensuring_at, ensuring_at}
use Rattle.pp_grammar_sound.proofs.Opens.{head_block_at, head_params, opens_args, opens_asserting, opens_body}
use Rattle.pp_grammar_sound.proofs.Opens.{opens_cases, opens_claiming, opens_claiming_hole, opens_if_rest}
use Rattle.pp_grammar_sound.proofs.Opens.{opens_if_test, opens_if_then, opens_measuring, opens_requiring, opens_round}
use Rattle.pp_grammar_sound.proofs.Opens.{opens_stat, opens_tuple, opens_tuple_or_round, opens_val_value}
use Rattle.pp_grammar_sound.proofs.Opens.{post_braces_at, post_round_at, signature, stat_arm, stat_assert, stat_braces}
use Rattle.pp_grammar_sound.proofs.Opens.{stat_head, stat_val, then_at}
use Rattle.pp_grammar_sound.proofs.SoundContracts.{components_are, contracts_listed, in_order, is_measure, measured_end}
use Rattle.pp_grammar_sound.proofs.SoundContracts.{required_end, requirements_are}
use Rattle.pp_grammar_sound.proofs.Unwound.{Held, Value, as_claim, as_expr}
use Rattle.pp_tokens.specs.declared.token.Bracket.TheVariants.{CloseBrace, CloseRound, Comma, OpenBrace, Semicolon}
use Rattle.pp_tokens.specs.declared.token.Operator.TheVariants.{Arrow}
use Rattle.pp_tokens.specs.declared.token.Reserved.TheVariants.{Case, Else}
use Rattle.pp_tokens.specs.declared.token.Token.{Token}
use Rattle.pp_tokens.specs.declared.token.TokenKind.{TokenKind}
use Rattle.pp_tokens.specs.declared.token.TokenKind.TheVariants.{Mark, Newline, Op, Word as Reserve}
use Rattle.pp_tree.specs.Plain.{PatternTree, PostTree, Tree, TypeTree, Word}
use Rattle.std.proofs.Common.{Bool, List, Option, [], ap, false, refl, subst, true, ℕ, ◌∷◌, ◌≡◌}

module _ (text : Word) (t : Token) (ts us : List Token) where
  -- ---- postconditions

  body_behind : {vs ws : List Token} {s : List Frame} {w : Token} {b : Tree} {n : Word} {a : Option TypeTree} {e :
      Tree}
      → EnsuringAt text ts s w b vs → IsPost text vs ws n a e → Stands text ts s (after_body b (post_at w n a e)) ws
  body_behind (ensuring_at w sig head is r) p = at_after_body sig (ensuring w head is r p)
  body_behind (dot_ensuring_at dot w sig closed is_dot is r) p = at_after_body sig (dot_ensuring dot w closed
      is_dot is r p)

  keeps_claim_round : {vs : List Token} {s : List Frame} {w : Word} {a : Option TypeTree} {e : Tree}
      → t.kind ≡ Mark CloseRound → PostAt text ts s vs → IsLambda text vs (t ∷ us) w a e
      → Moved text ts t us (on_claim_round text t s w a e)
  keeps_claim_round is (post_round_at o en is_o) r = body_behind en (post_in_round o t is_o r is)
  keeps_claim_round is (post_braces_at o en is_o g) r = tt

  pub keeps_claim_brace : {vs ws : List Token} {s : List Frame} {w : Word} {a : Option TypeTree} {e : Tree}
      → t.kind ≡ Mark CloseBrace → PostAt text ts s vs → IsLambda text vs ws w a e → IsGap ws (t ∷ us)
      → Moved text ts t us (on_claim_brace text t s w a e)
  keeps_claim_brace is (post_round_at o en is_o) r gap = tt
  keeps_claim_brace is (post_braces_at o en is_o g) r gap = body_behind en (post_in_braces o t is_o g r gap is)

  keeps_claim_semi : {vs : List Token} {s : List Frame} {w : Word} {a : Option TypeTree} {e : Tree}
      → is_semi t.kind ≡ true → PostAt text ts s vs → IsLambda text vs (t ∷ us) w a e
      → Moved text ts t us (on_claim_semi text t s w a e)
  keeps_claim_semi is (post_round_at o en is_o) r = tt
  keeps_claim_semi is (post_braces_at o en is_o g) r = at_after_claim (post_braces_at o en is_o g) r (one_semi t is
      no_semi)

  -- a function ends
  pub def_ends : {vs ws : List Token} {h : Head} {a : TypeTree} (c : Contracts) {e : Tree} {p : Option PostTree}
      → Signature text ts vs h a → IsBody text vs ws (onto c.requirements []) c.measure e p
      → Declares text ts ws (def_tree h a c e p)
  def_ends k (signature c q (head_params n (begins_def d m an is_d is_n) tp pl) is_c ty is_q) body =
      declares_def (def_of d n c q an is_d is_n tp pl is_c ty is_q body)

  -- ---- closing brackets

  simple_of : {vs ws : List Token} {e : Tree} → IsPrimary text vs ws e → IsSimple text vs ws e
  simple_of r = simple r no_field

  keeps_round_closed : {vs : List Token} {s : List Frame} {e : Tree} → t.kind ≡ Mark CloseRound → Opens text ts s vs
      → IsExpr text vs (t ∷ us) e → Moved text ts t us (on_round_closed text t s e)
  keeps_round_closed is (opens_round o op is_o) r = at_have false op (simple_of (in_round o t is_o r is)) tt
  keeps_round_closed is (opens_args o op app is_o f) r =
      at_have false op (simple_of (app _ _ (arguments o is_o (exprs_behind text f (last_of_exprs t r is))))) tt
  keeps_round_closed is (opens_if_test i o op e1 e2 fl) r = at_want_then (then_at i o t op e1 e2 fl r is no_newlines)
  keeps_round_closed is (opens_asserting a o st e1 e2 e3) r = at_after_asserted a o t st e1 e2 e3 r is
  keeps_round_closed is (opens_requiring w o hb e1 e2 late e3) r =
      at_after_contract (required_end text (word text w) w.from hb late (requirement w o t e1 e2 e3 r is))
  keeps_round_closed {e = e} is (opens_measuring {es = es} w o hb e1 e2 none e3 f) r =
      let m = measure_behind text f (last_component t r is) in
      at_after_contract (measured_end text (word text w) w.from w.from (e ∷ es) (is_measure text m) hb none
      (measure w o e1 e2 e3 m))
  keeps_round_closed is (opens_tuple_or_round w o p hb e1 e2 none e3 e4) r =
      at_have false (opens_measuring w o hb e1 e2 none e3 front_none) (simple_of (in_round p t e4 r is)) tt
  keeps_round_closed {e = e} is (opens_tuple w o p q hb e1 e2 none e3 e4 x e5 f ds eq) r =
      at_after_tuple w o p q hb e1 e2 none e3 e4 x e5 (measure_behind text f (last_component t r is)) (e ∷ ds) (eq
      (e ∷ []))
  keeps_round_closed is (opens_claiming post cl) r = keeps_claim_round is post (cl _ _ r)
  keeps_round_closed is (opens_if_then (then_at i o c op e1 e2 fl x e3 br)) r = tt
  keeps_round_closed is (opens_stat (stat_braces o op e g)) r = tt
  keeps_round_closed is (opens_stat (stat_arm b op p g e gap)) r = tt
  keeps_round_closed is (opens_stat (stat_val v n q op e1 e2 e3 e4 e5 e6)) r = tt
  keeps_round_closed is (opens_stat (stat_assert b o c op e1 e2 e3 e4 e5 e6)) r = tt
  keeps_round_closed is (opens_stat (stat_head h)) r = tt
  keeps_round_closed is _ r = tt

  keeps_comma : {vs : List Token} {s : List Frame} {e : Tree} → t.kind ≡ Mark Comma → Opens text ts s vs
      → IsExpr text vs (t ∷ us) e → Moved text ts t us (on_comma text t s e)
  keeps_comma is (opens_args o op app is_o f) r = at_want (opens_args o op app is_o (front_more t f r is))
  keeps_comma is (opens_measuring w o hb e1 e2 none e3 f) r =
      at_want (opens_measuring w o hb e1 e2 none e3 (front_more t f r is))
  keeps_comma {e = e} is (opens_tuple_or_round w o p hb e1 e2 none e3 e4) r =
      at_want (opens_tuple w o p t hb e1 e2 none e3 e4 r is front_none (e ∷ []) (λ fs. refl))
  keeps_comma {e = e} is (opens_tuple w o p q hb e1 e2 none e3 e4 x e5 f ds eq) r =
      at_want (opens_tuple w o p q hb e1 e2 none e3 e4 x e5 (front_more t f r is) (e ∷ ds) (λ fs. eq (e ∷ fs)))
  keeps_comma is (opens_if_then (then_at i o c op e1 e2 fl x e3 br)) r = tt
  keeps_comma is (opens_stat (stat_braces o op e g)) r = tt
  keeps_comma is (opens_stat (stat_arm b op p g e gap)) r = tt
  keeps_comma is (opens_stat (stat_val v n q op e1 e2 e3 e4 e5 e6)) r = tt
  keeps_comma is (opens_stat (stat_assert b o c op e1 e2 e3 e4 e5 e6)) r = tt
  keeps_comma is (opens_stat (stat_head h)) r = tt
  keeps_comma is _ r = tt

  pub keeps_else : {vs ws : List Token} {s : List Frame} {e : Tree} → t.kind ≡ Reserve Else → Opens text ts s vs
      → IsExpr text vs ws e → IsSemicolon ws (t ∷ us) → Moved text ts t us (on_else text t s e)
  keeps_else is (opens_if_then (then_at i o c op e1 e2 fl x e3 br)) r sc =
      at_want (opens_if_rest i o c t op e1 e2 fl x e3 br r sc is)
  keeps_else is (opens_stat (stat_braces o op e g)) r sc = tt
  keeps_else is (opens_stat (stat_arm b op p g e gap)) r sc = tt
  keeps_else is (opens_stat (stat_val v n q op e1 e2 e3 e4 e5 e6)) r sc = tt
  keeps_else is (opens_stat (stat_assert b o c op e1 e2 e3 e4 e5 e6)) r sc = tt
  keeps_else is (opens_stat (stat_head h)) r sc = tt
  keeps_else is _ r sc = tt

  -- ---- the end of a block

  keeps_match_closed : {vs ws xs : List Token} {s : List Frame} {p : PatternTree} {g : Option Tree} {e : Tree} (a :
      Token)
      → t.kind ≡ Mark CloseBrace → Opens text ts s vs → IsPattern text vs ws p → IsGuard text ws (a ∷ xs) g
      → a.kind ≡ Op Arrow → IsRest text xs (t ∷ us) e
      → Moved text ts t us (on_match_closed text t s (record { pattern = p; guard = g; body = e }))
  keeps_match_closed a is (opens_cases m o c op fl x e1 e2 f e3) p g is_a r =
      at_have_matched op fl (match_of m o x e1 e2 (cases_behind text f (last_case t (case_of c a e3 p g is_a r) is)))
  keeps_match_closed a is (opens_if_then (then_at i o c op e1 e2 fl x e3 br)) p g is_a r = tt
  keeps_match_closed a is (opens_stat (stat_braces o op e g2)) p g is_a r = tt
  keeps_match_closed a is (opens_stat (stat_arm b op p2 g2 e gap)) p g is_a r = tt
  keeps_match_closed a is (opens_stat (stat_val v n q op e1 e2 e3 e4 e5 e6)) p g is_a r = tt
  keeps_match_closed a is (opens_stat (stat_assert b o c op e1 e2 e3 e4 e5 e6)) p g is_a r = tt
  keeps_match_closed a is (opens_stat (stat_head h)) p g is_a r = tt
  keeps_match_closed a is _ p g is_a r = tt

  keeps_next_case : {vs ws xs : List Token} {s : List Frame} {p : PatternTree} {g : Option Tree} {e : Tree} (a :
      Token)
      → t.kind ≡ Reserve Case → Opens text ts s vs → IsPattern text vs ws p → IsGuard text ws (a ∷ xs) g
      → a.kind ≡ Op Arrow → IsRest text xs (t ∷ us) e
      → Moved text ts t us (on_next_case text t s (record { pattern = p; guard = g; body = e }))
  keeps_next_case a is (opens_cases m o c op fl x e1 e2 f e3) p g is_a r =
      at_want_pattern (opens_cases m o t op fl x e1 e2 (cases_more f (case_of c a e3 p g is_a r)) is)
  keeps_next_case a is (opens_if_then (then_at i o c op e1 e2 fl x e3 br)) p g is_a r = tt
  keeps_next_case a is (opens_stat (stat_braces o op e g2)) p g is_a r = tt
  keeps_next_case a is (opens_stat (stat_arm b op p2 g2 e gap)) p g is_a r = tt
  keeps_next_case a is (opens_stat (stat_val v n q op e1 e2 e3 e4 e5 e6)) p g is_a r = tt
  keeps_next_case a is (opens_stat (stat_assert b o c op e1 e2 e3 e4 e5 e6)) p g is_a r = tt
  keeps_next_case a is (opens_stat (stat_head h)) p g is_a r = tt
  keeps_next_case a is _ p g is_a r = tt

  -- a block with contracts
  block_with_contracts : {vs ws xs : List Token} {cs : List Contract} {r m : List Tree} {l : Option ℕ} {e : Tree}
      (o : Token) → o.kind ≡ Mark OpenBrace → FrontContracts text vs ws cs → Shaped cs r m l → IsStats text ws xs e
      → IsGap xs (t ∷ us) → t.kind ≡ Mark CloseBrace → IsContractBlock text (o ∷ vs) us (onto r []) m e
  block_with_contracts {vs = vs} {m = m} {e = e} o is_o f sh st gap is =
      let k = contracts_listed text f in
      let P : List Tree → List Tree → Type 0 = λ x y. IsContractBlock text (o ∷ vs) us x y e in
      subst (λ x. P x m) (requirements_are sh) (subst (P _) (components_are sh) (contract_block o t is_o k.gap
      k.reads (in_order sh) st gap is))

  pub keeps_sealed_brace : {vs ws : List Token} {s : List Frame} {e : Tree} → t.kind ≡ Mark CloseBrace
      → StatAt text ts s vs → IsStats text vs ws e → IsGap ws (t ∷ us)
      → Moved text ts t us (on_sealed_brace text t (seal s e))
  keeps_sealed_brace is (stat_val v n q st e1 e2 a e3 x sm) r gap =
      keeps_sealed_brace is st (val_stat v n q e1 e2 a e3 x sm r) gap
  keeps_sealed_brace is (stat_assert a o c st e1 e2 e3 x e4 sm) r gap =
      keeps_sealed_brace is st (assert_stat a o c e1 e2 e3 x e4 sm r) gap
  keeps_sealed_brace is (stat_braces o op is_o g) r gap =
      at_have false op (simple_of (in_block (block o t is_o (rest g r gap) is))) tt
  keeps_sealed_brace is (stat_arm a op p gd is_a g) r gap = keeps_match_closed a is op p gd is_a (rest g r gap)
  keeps_sealed_brace is (stat_head (head_block_at o sig is_o (contracts_none g))) r gap =
      at_have false (opens_body sig) (simple_of (in_block (block o t is_o (rest g r gap) is))) tt
  keeps_sealed_brace is (stat_head (head_block_at o sig is_o (contracts_some p f sh))) r gap =
      at_have_contracted sig (block_with_contracts o is_o f sh r gap is)

  pub keeps_sealed_case : {vs ws : List Token} {s : List Frame} {e : Tree} → t.kind ≡ Reserve Case
      → StatAt text ts s vs → IsStats text vs ws e → IsGap ws (t ∷ us)
      → Moved text ts t us (on_sealed_case text t (seal s e))
  keeps_sealed_case is (stat_val v n q st e1 e2 a e3 x sm) r gap =
      keeps_sealed_case is st (val_stat v n q e1 e2 a e3 x sm r) gap
  keeps_sealed_case is (stat_assert a o c st e1 e2 e3 x e4 sm) r gap =
      keeps_sealed_case is st (assert_stat a o c e1 e2 e3 x e4 sm r) gap
  keeps_sealed_case is (stat_braces o op is_o g) r gap = tt
  keeps_sealed_case is (stat_arm a op p gd is_a g) r gap = keeps_next_case a is op p gd is_a (rest g r gap)
  keeps_sealed_case is (stat_head h) r gap = tt

  keeps_brace_closed : {vs : List Token} {s : List Frame} {e : Tree} → t.kind ≡ Mark CloseBrace → Opens text ts s vs
      → IsExpr text vs (t ∷ us) e → Moved text ts t us (on_sealed_brace text t (seal s e))
  keeps_brace_closed is (opens_stat st) r = keeps_sealed_brace is st (last_expr r) no_semi
  keeps_brace_closed is (opens_claiming post cl) r = keeps_claim_brace is post (cl _ _ r) no_semi
  keeps_brace_closed is (opens_body sig) r = def_ends no_contracts sig (expr_alone r)
  keeps_brace_closed is (opens_if_then (then_at i o c op e1 e2 fl x e3 br)) r = tt
  keeps_brace_closed is _ r = tt

  keeps_case_ended : {vs : List Token} {s : List Frame} {e : Tree} → t.kind ≡ Reserve Case → Opens text ts s vs
      → IsExpr text vs (t ∷ us) e → Moved text ts t us (on_sealed_case text t (seal s e))
  keeps_case_ended is (opens_stat st) r = keeps_sealed_case is st (last_expr r) no_semi
  keeps_case_ended is (opens_if_then (then_at i o c op e1 e2 fl x e3 br)) r = tt
  keeps_case_ended is _ r = tt

  keeps_semi : {vs : List Token} {s : List Frame} {e : Tree} → is_semi t.kind ≡ true → Opens text ts s vs
      → IsExpr text vs (t ∷ us) e → Moved text ts t us (on_semi text t s e)
  keeps_semi is (opens_val_value v n q st e1 e2 a e3) r =
      at_want_stat (stat_val v n q st e1 e2 a e3 r (semis t is no_semi))
  keeps_semi is (opens_claiming post cl) r = keeps_claim_semi is post (cl _ _ r)
  keeps_semi is (opens_body sig) r = def_ends no_contracts sig (expr_alone r)
  keeps_semi is (opens_stat (stat_braces o op e g)) r = at_after_last (stat_braces o op e g) r (one_semi t is no_semi)
  keeps_semi is (opens_stat (stat_arm b op p g e gap)) r =
      at_after_last (stat_arm b op p g e gap) r (one_semi t is no_semi)
  keeps_semi is (opens_stat (stat_val v n q op e1 e2 e3 e4 e5 e6)) r =
      at_after_last (stat_val v n q op e1 e2 e3 e4 e5 e6) r (one_semi t is no_semi)
  keeps_semi is (opens_stat (stat_assert b o c op e1 e2 e3 e4 e5 e6)) r =
      at_after_last (stat_assert b o c op e1 e2 e3 e4 e5 e6) r (one_semi t is no_semi)
  keeps_semi is (opens_stat (stat_head h)) r = at_after_last (stat_head h) r (one_semi t is no_semi)
  keeps_semi is (opens_if_then (then_at i o c op e1 e2 fl x e3 br)) r = tt
  keeps_semi is _ r = tt

  keeps_semicolon : {vs : List Token} {s : List Frame} {e : Tree} → t.kind ≡ Mark Semicolon → Opens text ts s vs
      → IsExpr text vs (t ∷ us) e → Moved text ts t us (on_semicolon text t s e)
  keeps_semicolon is (opens_if_then (then_at i o c op e1 e2 fl x e3 br)) r =
      at_want_else t (opens_if_then (then_at i o c op e1 e2 fl x e3 br)) r is
  keeps_semicolon is (opens_stat (stat_braces o op e g)) r = keeps_semi (ap is_semi is) (opens_stat (stat_braces o
      op e g)) r
  keeps_semicolon is (opens_stat (stat_arm b op p g e gap)) r =
      keeps_semi (ap is_semi is) (opens_stat (stat_arm b op p g e gap)) r
  keeps_semicolon is (opens_stat (stat_val v n q op e1 e2 e3 e4 e5 e6)) r =
      keeps_semi (ap is_semi is) (opens_stat (stat_val v n q op e1 e2 e3 e4 e5 e6)) r
  keeps_semicolon is (opens_stat (stat_assert b o c op e1 e2 e3 e4 e5 e6)) r =
      keeps_semi (ap is_semi is) (opens_stat (stat_assert b o c op e1 e2 e3 e4 e5 e6)) r
  keeps_semicolon is (opens_stat (stat_head h)) r = keeps_semi (ap is_semi is) (opens_stat (stat_head h)) r
  keeps_semicolon is opn r = keeps_semi (ap is_semi is) opn r

  keeps_expr_end : {vs : List Token} {s : List Frame} {e : Tree} (k : TokenKind) → t.kind ≡ k → Opens text ts s vs
      → IsExpr text vs (t ∷ us) e → Moved text ts t us (on_expr_end text t s e k)
  keeps_expr_end (Mark CloseRound) is op r = keeps_round_closed is op r
  keeps_expr_end (Mark Comma) is op r = keeps_comma is op r
  keeps_expr_end (Mark CloseBrace) is op r = keeps_brace_closed is op r
  keeps_expr_end (Mark Semicolon) is op r = keeps_semicolon is op r
  keeps_expr_end Newline is op r = keeps_semi (ap is_semi is) op r
  keeps_expr_end (Reserve Else) is op r = keeps_else is op r no_semicolon
  keeps_expr_end (Reserve Case) is op r = keeps_case_ended is op r
  keeps_expr_end _ is op r = tt

  keeps_claim_end : {vs : List Token} {s : List Frame} {e : Tree} (k : TokenKind) → t.kind ≡ k → PostAt text ts s vs
      → IsHole text loosest vs (t ∷ us) e → Moved text ts t us (on_hole_end text t (claiming_hole ∷ s) e k)
  keeps_claim_end (Mark CloseRound) is post r = keeps_claim_round is post (of_hole r)
  keeps_claim_end (Mark CloseBrace) is post r = keeps_claim_brace is post (of_hole r) no_semi
  keeps_claim_end (Mark Semicolon) is post r = keeps_claim_semi (ap is_semi is) post (of_hole r)
  keeps_claim_end Newline is post r = keeps_claim_semi (ap is_semi is) post (of_hole r)
  keeps_claim_end _ is post r = tt

  keeps_hole_end : {vs : List Token} {s : List Frame} {e : Tree} (k : TokenKind) → t.kind ≡ k → Opens text ts s vs
      → IsHole text loosest vs (t ∷ us) e → Moved text ts t us (on_hole_end text t s e k)
  keeps_hole_end k is (opens_claiming_hole post) r = keeps_claim_end k is post r
  keeps_hole_end k is (opens_if_then (then_at i o c op e1 e2 fl x e3 br)) r = tt
  keeps_hole_end k is (opens_stat (stat_braces o op e g)) r = tt
  keeps_hole_end k is (opens_stat (stat_arm b op p g e gap)) r = tt
  keeps_hole_end k is (opens_stat (stat_val v n q op e1 e2 e3 e4 e5 e6)) r = tt
  keeps_hole_end k is (opens_stat (stat_assert b o c op e1 e2 e3 e4 e5 e6)) r = tt
  keeps_hole_end k is (opens_stat (stat_head h)) r = tt
  keeps_hole_end k is _ r = tt

  keeps_end : {vs : List Token} (s : List Frame) (e : Tree) (h : Bool) (k : TokenKind) → t.kind ≡ k
      → Opens text ts s vs
      → Value text h 0 vs (t ∷ us) e → Moved text ts t us (on_end text t s e h k)
  keeps_end s e true k is op v = keeps_hole_end k is op (as_claim text v)
  keeps_end s e false k is op v = keeps_expr_end k is op (as_expr text v)

  pub keeps_unwound : (u : Operand) (k : TokenKind) → t.kind ≡ k → Held text 0 ts u (t ∷ us)
      → Moved text ts t us (on_unwound text t u k)
  keeps_unwound u k is held = keeps_end u.frames u.tree u.holed k is held.opens held.reads

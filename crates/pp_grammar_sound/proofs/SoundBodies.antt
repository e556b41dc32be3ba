-- Each step in statements, contracts, postconditions and heads keeps what the modes say.
use Rattle.pp_grammar.specs.Bodies.{IsContract, IsContractBlock, IsLambda, IsMeasure, block_alone, closed_block}
use Rattle.pp_grammar.specs.Bodies.{decreases, dot_holds, head_block, holds, measure_of_tuple, of_name}
use Rattle.pp_grammar.specs.Bodies.{of_name_in_round}
use Rattle.pp_grammar.specs.Exprs.{IsExpr, IsSimple, in_round, infix_expr, last_expr, name_alone, no_field, no_prefix}
use Rattle.pp_grammar.specs.Exprs.{operand, simple}
use Rattle.pp_grammar.specs.Frames.{Contracts, Frame, Head, Placed, after_assert, body_of, claiming_hole, head_braces}
use Rattle.pp_grammar.specs.Frames.{in_braces, measuring, post_of}
use Rattle.pp_grammar.specs.Joining.{def_tree, has_measure, no_contracts, onto, with_word}
use Rattle.pp_grammar.specs.StepBodies.{on_after_claim, on_after_decreases, on_after_ensuring, on_after_last}
use Rattle.pp_grammar.specs.StepBodies.{on_after_require, on_after_stat, on_after_tuple, on_assert_word}
use Rattle.pp_grammar.specs.StepBodies.{on_contracted_dot, on_contracted_name, on_contracted_operator, on_decreases}
use Rattle.pp_grammar.specs.StepBodies.{on_decreases_word, on_have_contracted, on_lambda_closed, on_lambda_name}
use Rattle.pp_grammar.specs.StepBodies.{on_lambda_round, on_lambda_round_name, on_lambda_typed, on_late_name}
use Rattle.pp_grammar.specs.StepBodies.{on_late_round, on_measure_open, on_misplaced, on_require, on_require_word}
use Rattle.pp_grammar.specs.StepBodies.{on_stat_name, on_val_name, on_val_word, on_want_body, on_want_lambda}
use Rattle.pp_grammar.specs.StepBodies.{on_want_lambda_or_semi, on_want_stat}
use Rattle.pp_grammar.specs.StepExprs.{on_post_word}
use Rattle.pp_grammar.specs.Types.{IsGap, IsType, ascribed, no_semi, no_type, semis}
use Rattle.pp_grammar.specs.Words.{Role, assert_word, binary_of, decreases_word, ensuring_word, holds_word, int_word}
use Rattle.pp_grammar.specs.Words.{is_dot, is_semi, loosest, plain, require_word, role, word}
use Rattle.pp_grammar_sound.proofs.Fronts.{front_none, gap_goes_on}
use Rattle.pp_grammar_sound.proofs.Modes.{Declares, Moved, at_after_assert_word, at_after_body, at_after_claim}
use Rattle.pp_grammar_sound.proofs.Modes.{at_after_contract, at_after_contracted_dot, at_after_decreases}
use Rattle.pp_grammar_sound.proofs.Modes.{at_after_ensuring, at_after_lambda_closed, at_after_lambda_name}
use Rattle.pp_grammar_sound.proofs.Modes.{at_after_lambda_round, at_after_lambda_round_name, at_after_last}
use Rattle.pp_grammar_sound.proofs.Modes.{at_after_require, at_after_val_name, at_after_val_word, at_measure_open}
use Rattle.pp_grammar_sound.proofs.Modes.{at_want, at_want_lambda, at_want_lambda_or_semi, at_want_stat, at_want_type}
use Rattle.pp_grammar_sound.proofs.Opens.{EnsuringAt, HeadBlock, HeadBlockEnd, Opens, PostAt, Signature, StatAt}
use Rattle.pp_grammar_sound.proofs.Opens.{contracts_none, dot_ensuring_at, ensuring_at, head_block_at, head_block_end}
use Rattle.pp_grammar_sound.proofs.Opens.{opens_asserting, opens_body, opens_claiming, opens_claiming_hole}
use Rattle.pp_grammar_sound.proofs.Opens.{opens_measuring, opens_requiring, opens_result_name_type}
use Rattle.pp_grammar_sound.proofs.Opens.{opens_result_name_type_in_round, opens_round, opens_stat}
use Rattle.pp_grammar_sound.proofs.Opens.{opens_tuple_or_round, opens_val_type, opens_val_value, post_braces_at}
use Rattle.pp_grammar_sound.proofs.Opens.{post_round_at, stat_assert, stat_head}
use Rattle.pp_grammar_sound.proofs.SoundContracts.{measured_end, stat_goes_on}
use Rattle.pp_grammar_sound.proofs.SoundEnds.{def_ends, keeps_claim_brace, keeps_sealed_brace, keeps_sealed_case}
use Rattle.pp_grammar_sound.proofs.SoundExprs.{keeps_have, keeps_operand_name, keeps_want}
use Rattle.pp_grammar_sound.proofs.SoundMatches.{keeps_int, keeps_name}
use Rattle.pp_grammar_sound.proofs.Unwound.{infix_of}
use Rattle.pp_tokens.specs.declared.token.Bracket.TheVariants.{CloseBrace, CloseRound, Comma, Dot, OpenBrace, OpenRound}
use Rattle.pp_tokens.specs.declared.token.Bracket.TheVariants.{Semicolon}
use Rattle.pp_tokens.specs.declared.token.Operator.TheVariants.{Arrow, Assign, Colon}
use Rattle.pp_tokens.specs.declared.token.Reserved.TheVariants.{Case, Match, Val}
use Rattle.pp_tokens.specs.declared.token.Token.{Token}
use Rattle.pp_tokens.specs.declared.token.TokenKind.{TokenKind}
use Rattle.pp_tokens.specs.declared.token.TokenKind.TheVariants.{Mark, Name, Newline, Op, Word as Reserve}
use Rattle.pp_tree.specs.Plain.{Tree, TypeTree, Word, name}
use Rattle.pp_tree.specs.declared.operator.BinaryOp.{BinaryOp}
use Rattle.std.proofs.Common.{Bool, List, None, Option, Some, [], ap, arith, false, refl, subst, sym, true, ℕ, ◌∷◌, ◌≡◌}

module _ (text : Word) (t : Token) (ts us : List Token) where
  -- ---- statements

  pub keeps_require_word : {h : Head} {a : TypeTree} {c : Contracts} (l : Option ℕ) → c.late ≡ l → t.kind ≡ Name
      → role (word text t) ≡ require_word → HeadBlock text ts (t ∷ us) h a c
      → Moved text ts t us (on_require_word text t (body_of h a no_contracts ∷ []) c l)
  keeps_require_word (Some at) is is_n r hb = tt
  keeps_require_word None is is_n r hb = at_after_require t hb is_n r is

  pub keeps_decreases_word : {h : Head} {a : TypeTree} {c : Contracts} (b : Bool) → has_measure c.measure ≡ b
      → t.kind ≡ Name → role (word text t) ≡ decreases_word → HeadBlock text ts (t ∷ us) h a c
      → Moved text ts t us (on_decreases_word text t (body_of h a no_contracts ∷ []) c b)
  keeps_decreases_word true is is_n r hb = tt
  keeps_decreases_word false is is_n r hb = at_after_decreases t hb is_n r is

  pub keeps_require : {s : List Frame} → t.kind ≡ Name → role (word text t) ≡ require_word → StatAt text ts s (t ∷ us)
      → Moved text ts t us (on_require text t s)
  keeps_require is r (stat_head {c = c} hb) = keeps_require_word c.late refl is r hb
  keeps_require is r _ = tt

  pub keeps_decreases : {s : List Frame} → t.kind ≡ Name → role (word text t) ≡ decreases_word
      → StatAt text ts s (t ∷ us) → Moved text ts t us (on_decreases text t s)
  keeps_decreases is r (stat_head {c = c} hb) = keeps_decreases_word (has_measure c.measure) refl is r hb
  keeps_decreases is r _ = tt

  pub keeps_stat_name : {s : List Frame} (r : Role) → role (word text t) ≡ r → t.kind ≡ Name
      → StatAt text ts s (t ∷ us)
      → Moved text ts t us (on_stat_name text t s r)
  keeps_stat_name assert_word r is st = at_after_assert_word t st is r
  keeps_stat_name require_word r is st = keeps_require is r st
  keeps_stat_name decreases_word r is st = keeps_decreases is r st
  keeps_stat_name k r is st = keeps_operand_name text t ts us k r is (opens_stat st)

  pub keeps_want_stat : {s : List Frame} (k : TokenKind) → t.kind ≡ k → StatAt text ts s (t ∷ us)
      → Moved text ts t us (on_want_stat text t s k)
  keeps_want_stat Newline is st = at_want_stat (stat_goes_on text t (ap is_semi is) st)
  keeps_want_stat (Mark Semicolon) is st = at_want_stat (stat_goes_on text t (ap is_semi is) st)
  keeps_want_stat (Reserve Val) is st = at_after_val_word t st is
  keeps_want_stat Name is st = keeps_stat_name (role (word text t)) refl is st
  keeps_want_stat k is st = keeps_want text t ts us k is (opens_stat st)

  -- behind `assert(..)` or a contract, semis lead to the next statement
  pub keeps_after_stat_by : {s : List Frame} (k : TokenKind) → t.kind ≡ k → (is_semi t.kind ≡ true
      → StatAt text ts s us)
      → Moved text ts t us (on_after_stat text t s k)
  keeps_after_stat_by Newline is st = at_want_stat (st (ap is_semi is))
  keeps_after_stat_by (Mark Semicolon) is st = at_want_stat (st (ap is_semi is))
  keeps_after_stat_by _ is st = tt

  pub keeps_after_assert : {vs : List Token} {s : List Frame} {x : Tree} (a o c : Token) (k : TokenKind) → t.kind ≡ k
      → StatAt text ts s (a ∷ o ∷ vs) → a.kind ≡ Name → role (word text a) ≡ assert_word → o.kind ≡ Mark OpenRound
      → IsExpr text vs (c ∷ t ∷ us) x → c.kind ≡ Mark CloseRound
      → Moved text ts t us (on_after_stat text t (after_assert a.from x ∷ s) k)
  keeps_after_assert a o c k is st is_a r is_o x is_c =
      keeps_after_stat_by k is (λ sm. stat_assert a o c st is_a r is_o x is_c (semis t sm no_semi))

  pub contract_ended : {h : Head} {a : TypeTree} {c : Contracts} → HeadBlockEnd text ts (t ∷ us) h a c
      → is_semi t.kind ≡ true → HeadBlock text ts us h a c
  contract_ended (head_block_end o sig is_o c) sm = head_block_at o sig is_o (c us (semis t sm no_semi))

  pub keeps_after_contract : {h : Head} {a : TypeTree} {c : Contracts} (k : TokenKind) → t.kind ≡ k
      → HeadBlockEnd text ts (t ∷ us) h a c
      → Moved text ts t us (on_after_stat text t (head_braces c ∷ body_of h a no_contracts ∷ []) k)
  keeps_after_contract k is hb = keeps_after_stat_by k is (λ sm. stat_head (contract_ended hb sm))

  pub keeps_after_last : {vs ws : List Token} {s : List Frame} {e : Tree} (k : TokenKind) → t.kind ≡ k
      → StatAt text ts s vs → IsExpr text vs ws e → IsGap ws (t ∷ us) → Moved text ts t us (on_after_last text t s
      e k)
  keeps_after_last Newline is st r gap = at_after_last st r (gap_goes_on t (ap is_semi is) gap)
  keeps_after_last (Mark Semicolon) is st r gap = at_after_last st r (gap_goes_on t (ap is_semi is) gap)
  keeps_after_last (Mark CloseBrace) is st r gap = keeps_sealed_brace text t ts us is st (last_expr r) gap
  keeps_after_last (Reserve Case) is st r gap = keeps_sealed_case text t ts us is st (last_expr r) gap
  keeps_after_last _ is st r gap = tt

  pub keeps_val_word : {s : List Frame} (v : Token) (k : TokenKind) → t.kind ≡ k → StatAt text ts s (v ∷ t ∷ us)
      → v.kind ≡ Reserve Val → Moved text ts t us (on_val_word text t s v.from k)
  keeps_val_word v Name is st is_v = at_after_val_name v t st is_v is
  keeps_val_word v _ is st is_v = tt

  pub keeps_val_name : {s : List Frame} (v n : Token) (k : TokenKind) → t.kind ≡ k → StatAt text ts s (v ∷ n ∷ t ∷ us)
      → v.kind ≡ Reserve Val → n.kind ≡ Name → Moved text ts t us (on_val_name text t s v.from (word text n) k)
  keeps_val_name v n (Op Colon) is st is_v is_n = at_want_type (opens_val_type v n t st is_v is_n is)
  keeps_val_name v n (Op Assign) is st is_v is_n = at_want (opens_val_value v n t st is_v is_n no_type is)
  keeps_val_name v n _ is st is_v is_n = tt

  pub keeps_assert_word : {s : List Frame} (a : Token) (k : TokenKind) → t.kind ≡ k → StatAt text ts s (a ∷ t ∷ us)
      → a.kind ≡ Name → role (word text a) ≡ assert_word → Moved text ts t us (on_assert_word text t s a.from k)
  keeps_assert_word a (Mark OpenRound) is st is_a r = at_want (opens_asserting a t st is_a r is)
  keeps_assert_word a _ is st is_a r = tt

  pub keeps_after_require : {h : Head} {a : TypeTree} {c : Contracts} (w : Token) (k : TokenKind) → t.kind ≡ k
      → HeadBlock text ts (w ∷ t ∷ us) h a c → w.kind ≡ Name → role (word text w) ≡ require_word → c.late ≡ None
      → Moved text ts t us (on_after_require text t (head_braces (with_word c (word text w) w.from) ∷ body_of h a
      no_contracts ∷ []) k)
  keeps_after_require w (Mark OpenRound) is hb is_w r l = at_want (opens_requiring w t hb is_w r l is)
  keeps_after_require w _ is hb is_w r l = tt

  pub keeps_after_decreases : {h : Head} {a : TypeTree} {c : Contracts} (w : Token) (k : TokenKind) → t.kind ≡ k
      → HeadBlock text ts (w ∷ t ∷ us) h a c → w.kind ≡ Name → role (word text w) ≡ decreases_word
      → has_measure c.measure ≡ false
      → Moved text ts t us (on_after_decreases text t (head_braces (with_word c (word text w) w.from) ∷ body_of h a
      no_contracts ∷ []) w.from k)
  keeps_after_decreases w (Mark OpenRound) is hb is_w r l = at_measure_open w t hb is_w r l is
  keeps_after_decreases w _ is hb is_w r l = tt

  pub keeps_measure_open : {h : Head} {a : TypeTree} {c : Contracts} (w o : Token) (k : TokenKind) → t.kind ≡ k
      → HeadBlock text ts (w ∷ o ∷ t ∷ us) h a c → w.kind ≡ Name → role (word text w) ≡ decreases_word
      → has_measure c.measure ≡ false → o.kind ≡ Mark OpenRound
      → Moved text ts t us (on_measure_open text t (measuring w.from [] ∷ head_braces (with_word c (word text w)
      w.from) ∷ body_of h a no_contracts ∷ []) k)
  keeps_measure_open w o (Mark OpenRound) is hb is_w r l is_o = at_want (opens_tuple_or_round w o t hb is_w r l
      is_o is)
  keeps_measure_open w o k is hb is_w r l is_o =
      keeps_want text t ts us k is (opens_measuring w o hb is_w r l is_o front_none)

  pub keeps_after_tuple : {vs ws : List Token} {h : Head} {a : TypeTree} {c : Contracts} {x : Tree} {m : List Tree}
      (w o p q : Token) (k : TokenKind) → t.kind ≡ k → HeadBlock text ts (w ∷ o ∷ p ∷ vs) h a c → w.kind ≡ Name
      → role (word text w) ≡ decreases_word → has_measure c.measure ≡ false → o.kind ≡ Mark OpenRound
      → p.kind ≡ Mark OpenRound → IsExpr text vs (q ∷ ws) x → q.kind ≡ Mark Comma → IsMeasure text ws (t ∷ us) m
      → (ds : List Tree) → onto ds [] ≡ x ∷ m
      → Moved text ts t us (on_after_tuple text t (measuring w.from [] ∷ head_braces (with_word c (word text w)
      w.from) ∷ body_of h a no_contracts ∷ []) ds k)
  keeps_after_tuple {vs = vs} w o p q (Mark CloseRound) is hb is_w r l is_o is_p x is_q m ds e =
      let P : List Tree → Type 0 = λ y. IsContract text (w ∷ o ∷ p ∷ vs) us (decreases y) in
      at_after_contract (measured_end text (word text w) w.from w.from ds (ap has_measure e) hb l (subst P (sym e)
      (measure_of_tuple w o p q t is_w r is_o is_p x is_q m is)))
  keeps_after_tuple w o p q _ is hb is_w r l is_o is_p x is_q m ds e = tt

  -- ---- bodies

  pub keeps_want_body : {h : Head} {a : TypeTree} (k : TokenKind) → t.kind ≡ k → Signature text ts (t ∷ us) h a
      → Moved text ts t us (on_want_body text t (body_of h a no_contracts ∷ []) k)
  keeps_want_body (Mark OpenBrace) is sig = at_want_stat (stat_head (head_block_at t sig is (contracts_none no_semi)))
  keeps_want_body k is sig = keeps_want text t ts us k is (opens_body sig)

  pub misplaced_stops : (p : Option Placed) → Moved text ts t us (on_misplaced text t p)
  misplaced_stops (Some p) = tt
  misplaced_stops None = tt

  pub contracted_operator_stops : (h : Head) (a : TypeTree) (c : Contracts) (x : Option BinaryOp)
      → Moved text ts t us (on_contracted_operator text t (body_of h a c ∷ []) x)
  contracted_operator_stops h a c (Some op) = misplaced_stops c.first
  contracted_operator_stops h a c None = tt

  pub contracted_body : {vs : List Token} {h : Head} {a : TypeTree} (c : Contracts) {e : Tree}
      → Signature text ts vs h a
      → IsContractBlock text vs (t ∷ us) (onto c.requirements []) c.measure e
      → Declares text ts (t ∷ us) (def_tree h a c e None)
  contracted_body c sig b = def_ends text t ts us c sig (block_alone b)

  pub keeps_contracted_post : {vs : List Token} {h : Head} {a : TypeTree} (c : Contracts) {e : Tree} (r : Role)
      → role (word text t) ≡ r → t.kind ≡ Name → Signature text ts vs h a
      → IsContractBlock text vs (t ∷ us) (onto c.requirements []) c.measure e
      → Moved text ts t us (on_post_word text t (body_of h a c ∷ []) e false r)
  keeps_contracted_post c ensuring_word r is sig b = at_after_ensuring (ensuring_at {c = c} t sig (head_block b) is r)
  keeps_contracted_post c holds_word r is sig b = at_after_body {c = c} sig (holds t (head_block b) is r)
  keeps_contracted_post c _ r is sig b = tt

  pub keeps_have_contracted : {vs : List Token} (h : Head) (a : TypeTree) (c : Contracts) {e : Tree} (k : TokenKind)
      → t.kind ≡ k → Signature text ts vs h a → IsContractBlock text vs (t ∷ us) (onto c.requirements []) c.measure e
      → Moved text ts t us (on_have_contracted text t (body_of h a c ∷ []) e k)
  keeps_have_contracted h a c (Mark Dot) is sig b = at_after_contracted_dot {c = c} t sig b is
  keeps_have_contracted h a c Name is sig b = keeps_contracted_post c (role (word text t)) refl is sig b
  keeps_have_contracted h a c Newline is sig b = contracted_body c sig b
  keeps_have_contracted h a c (Mark Semicolon) is sig b = contracted_body c sig b
  keeps_have_contracted h a c (Mark CloseBrace) is sig b = contracted_body c sig b
  keeps_have_contracted h a c (Op o) is sig b = contracted_operator_stops h a c (binary_of o)
  keeps_have_contracted h a c (Reserve Match) is sig b = misplaced_stops c.first
  keeps_have_contracted h a c _ is sig b = tt

  pub keeps_contracted_name : {vs : List Token} {h : Head} {a : TypeTree} (c : Contracts) {e : Tree} (dot : Token)
      (r : Role)
      → role (word text t) ≡ r → t.kind ≡ Name → Signature text ts vs h a
      → IsContractBlock text vs (dot ∷ t ∷ us) (onto c.requirements []) c.measure e → dot.kind ≡ Mark Dot
      → Moved text ts t us (on_contracted_name text t (body_of h a c ∷ []) e r)
  keeps_contracted_name c dot ensuring_word r is sig b is_dot =
      at_after_ensuring (dot_ensuring_at {c = c} dot t sig (closed_block b) is_dot is r)
  keeps_contracted_name c dot holds_word r is sig b is_dot =
      at_after_body {c = c} sig (dot_holds dot t (closed_block b) is_dot is r)
  keeps_contracted_name c dot _ r is sig b is_dot = misplaced_stops c.first

  pub keeps_contracted_dot : {vs : List Token} {h : Head} {a : TypeTree} (c : Contracts) {e : Tree} (dot : Token)
      (k : TokenKind) → t.kind ≡ k → Signature text ts vs h a
      → IsContractBlock text vs (dot ∷ t ∷ us) (onto c.requirements []) c.measure e → dot.kind ≡ Mark Dot
      → Moved text ts t us (on_contracted_dot text t (body_of h a c ∷ []) e k)
  keeps_contracted_dot c dot Name is sig b is_dot =
      keeps_contracted_name c dot (role (word text t)) refl is sig b is_dot
  keeps_contracted_dot c dot _ is sig b is_dot = tt

  -- ---- postconditions

  pub keeps_after_ensuring : {s : List Frame} {w : Token} {b : Tree} (k : TokenKind) → t.kind ≡ k
      → EnsuringAt text ts s w b (t ∷ us) → Moved text ts t us (on_after_ensuring text t s w.from b k)
  keeps_after_ensuring (Mark OpenRound) is en = at_want_lambda (post_round_at t en is)
  keeps_after_ensuring (Mark OpenBrace) is en = at_want_lambda_or_semi t en is no_semi
  keeps_after_ensuring _ is en = tt

  pub keeps_want_lambda : {s : List Frame} (k : TokenKind) → t.kind ≡ k → PostAt text ts s (t ∷ us)
      → Moved text ts t us (on_want_lambda text t s k)
  keeps_want_lambda Name is post = at_after_lambda_name t post is
  keeps_want_lambda (Mark OpenRound) is post = at_after_lambda_round t post is
  keeps_want_lambda k is post = keeps_want text t ts us k is (opens_claiming_hole post)

  pub keeps_want_lambda_or_semi : {vs : List Token} {s : List Frame} {w : Token} {b : Tree} (o : Token) (k :
      TokenKind)
      → t.kind ≡ k → EnsuringAt text ts s w b (o ∷ vs) → o.kind ≡ Mark OpenBrace → IsGap vs (t ∷ us)
      → Moved text ts t us (on_want_lambda_or_semi text t (post_of w.from b in_braces ∷ s) k)
  keeps_want_lambda_or_semi o Newline is en is_o gap = at_want_lambda_or_semi o en is_o (gap_goes_on t (ap is_semi
      is) gap)
  keeps_want_lambda_or_semi o (Mark Semicolon) is en is_o gap =
      at_want_lambda_or_semi o en is_o (gap_goes_on t (ap is_semi is) gap)
  keeps_want_lambda_or_semi o k is en is_o gap = keeps_want_lambda k is (post_braces_at o en is_o gap)

  pub keeps_late_name : {s : List Frame} (n : Token) (r : Role) → role (word text n) ≡ r → n.kind ≡ Name
      → (k : TokenKind)
      → t.kind ≡ k → Opens text ts s (n ∷ t ∷ us)
      → Moved text ts t us (on_late_name text t s n.from (word text n) r k)
  keeps_late_name n plain r is_n k is op = keeps_name text t ts us n k is op is_n r
  keeps_late_name n int_word r is_n k is op = keeps_int text t ts us n k is op is_n r
  keeps_late_name n require_word r is_n k is op = tt
  keeps_late_name n decreases_word r is_n k is op = tt
  keeps_late_name n _ r is_n k is op = tt

  pub keeps_lambda_name : {s : List Frame} (n : Token) (k : TokenKind) → t.kind ≡ k → PostAt text ts s (n ∷ t ∷ us)
      → n.kind ≡ Name → Moved text ts t us (on_lambda_name text t s n.from (word text n) k)
  keeps_lambda_name n (Op Arrow) is post is_n = at_want (opens_claiming post (λ ws e r. of_name n t is_n is r))
  keeps_lambda_name n (Op Colon) is post is_n = at_want_type (opens_result_name_type n t post is_n is)
  keeps_lambda_name n k is post is_n =
      keeps_late_name n (role (word text n)) refl is_n k is (opens_claiming_hole post)

  pub keeps_lambda_round : {s : List Frame} (o : Token) (k : TokenKind) → t.kind ≡ k → PostAt text ts s (o ∷ t ∷ us)
      → o.kind ≡ Mark OpenRound → Moved text ts t us (on_lambda_round text t s k)
  keeps_lambda_round o Name is post is_o = at_after_lambda_round_name o t post is_o is
  keeps_lambda_round o k is post is_o =
      keeps_want text t ts us k is (opens_round o (opens_claiming_hole post) is_o)

  pub keeps_lambda_round_name : {s : List Frame} (o n : Token) (k : TokenKind) → t.kind ≡ k
      → PostAt text ts s (o ∷ n ∷ t ∷ us) → o.kind ≡ Mark OpenRound → n.kind ≡ Name
      → Moved text ts t us (on_lambda_round_name text t s n.from (word text n) k)
  keeps_lambda_round_name o n (Mark CloseRound) is post is_o is_n = at_after_lambda_closed o n t post is_o is_n is
  keeps_lambda_round_name o n (Op Colon) is post is_o is_n =
      at_want_type (opens_result_name_type_in_round o n t post is_o is_n is)
  keeps_lambda_round_name o n k is post is_o is_n =
      keeps_late_name n (role (word text n)) refl is_n k is (opens_round o (opens_claiming_hole post) is_o)

  pub name_in_round : (o n c : Token) → o.kind ≡ Mark OpenRound → n.kind ≡ Name → role (word text n) ≡ plain
      → c.kind ≡ Mark CloseRound → IsSimple text (o ∷ n ∷ c ∷ t ∷ us) (t ∷ us) (name n.from (word text n))
  name_in_round o n c is_o is_n r is_c =
      simple (in_round o c is_o (infix_expr (infix_of text loosest 9 (omega arith) (operand (no_prefix (simple
      (name_alone n is_n r) no_field))))) is_c) no_field

  pub keeps_late_round : {s : List Frame} (o n c : Token) (r : Role) → role (word text n) ≡ r → (k : TokenKind)
      → t.kind ≡ k
      → PostAt text ts s (o ∷ n ∷ c ∷ t ∷ us) → o.kind ≡ Mark OpenRound → n.kind ≡ Name → c.kind ≡ Mark CloseRound
      → Moved text ts t us (on_late_round text t (claiming_hole ∷ s) n.from (word text n) r k)
  keeps_late_round {s = s} o n c plain r k is post is_o is_n is_c =
      keeps_have text t ts us false (o ∷ n ∷ c ∷ t ∷ us) (claiming_hole ∷ s) (name n.from (word text n)) k is
      (opens_claiming_hole post) (name_in_round o n c is_o is_n r is_c) tt
  keeps_late_round o n c require_word r k is post is_o is_n is_c = tt
  keeps_late_round o n c decreases_word r k is post is_o is_n is_c = tt
  keeps_late_round o n c _ r k is post is_o is_n is_c = tt

  pub keeps_lambda_closed : {s : List Frame} (o n c : Token) (k : TokenKind) → t.kind ≡ k
      → PostAt text ts s (o ∷ n ∷ c ∷ t ∷ us) → o.kind ≡ Mark OpenRound → n.kind ≡ Name → c.kind ≡ Mark CloseRound
      → Moved text ts t us (on_lambda_closed text t s n.from (word text n) k)
  keeps_lambda_closed o n c (Op Arrow) is post is_o is_n is_c =
      at_want (opens_claiming post (λ ws e r. of_name_in_round o n c t is_o is_n no_type is_c is r))
  keeps_lambda_closed o n c k is post is_o is_n is_c =
      keeps_late_round o n c (role (word text n)) refl k is post is_o is_n is_c

  pub keeps_lambda_typed : {vs : List Token} {s : List Frame} {a : TypeTree} (o n c e : Token) (k : TokenKind)
      → t.kind ≡ k → PostAt text ts s (o ∷ n ∷ c ∷ vs) → o.kind ≡ Mark OpenRound → n.kind ≡ Name → c.kind ≡ Op Colon
      → IsType text vs (e ∷ t ∷ us) a → e.kind ≡ Mark CloseRound
      → Moved text ts t us (on_lambda_typed text t s (word text n) a k)
  keeps_lambda_typed o n c e (Op Arrow) is post is_o is_n is_c a is_e =
      at_want (opens_claiming post (λ ws x r. of_name_in_round o n e t is_o is_n (ascribed c is_c a) is_e is r))
  keeps_lambda_typed o n c e _ is post is_o is_n is_c a is_e = tt

  pub keeps_after_claim : {vs ws : List Token} {s : List Frame} {w : Word} {a : Option TypeTree} {e : Tree}
      (k : TokenKind) → t.kind ≡ k → PostAt text ts s vs → IsLambda text vs ws w a e → IsGap ws (t ∷ us)
      → Moved text ts t us (on_after_claim text t s w a e k)
  keeps_after_claim Newline is post r gap = at_after_claim post r (gap_goes_on t (ap is_semi is) gap)
  keeps_after_claim (Mark Semicolon) is post r gap = at_after_claim post r (gap_goes_on t (ap is_semi is) gap)
  keeps_after_claim (Mark CloseBrace) is post r gap = keeps_claim_brace text t ts us is post r gap
  keeps_after_claim _ is post r gap = tt

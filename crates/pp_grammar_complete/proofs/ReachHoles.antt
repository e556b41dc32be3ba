-- The automaton reads each claim with a hole, whose first operand may look like a lambda.
use Rattle.pp_grammar.specs.Automaton.{on_mode}
use Rattle.pp_grammar.specs.Bodies.{IsHole, hole, hole_on_left, hole_on_right, looser_hole, prefixed_hole}
use Rattle.pp_grammar.specs.Exprs.{IsExpr, IsFields, IsInfix, IsPrefix, IsPrimary, arguments, at_types}
use Rattle.pp_grammar.specs.Exprs.{at_types_on_arguments, block, bound, false_word, if_else, in_block, in_round}
use Rattle.pp_grammar.specs.Exprs.{infix_expr, looser, match_of, matched, name_alone, negative, no_arguments, no_field}
use Rattle.pp_grammar.specs.Exprs.{no_prefix, number, on_arguments, one_field, operand, operator, prefixed, simple}
use Rattle.pp_grammar.specs.Exprs.{true_word}
use Rattle.pp_grammar.specs.Frames.{Frame, Mode, Parsed, after_int, after_lambda_closed, after_lambda_name}
use Rattle.pp_grammar.specs.Frames.{after_lambda_round, after_lambda_round_name, after_name, claiming_hole, go, have}
use Rattle.pp_grammar.specs.Frames.{left, prefixing, round, want, want_lambda}
use Rattle.pp_grammar.specs.Joining.{Operand, above, floor, takes_hole, unwind}
use Rattle.pp_grammar.specs.StepBodies.{on_lambda_closed, on_lambda_name, on_lambda_round, on_lambda_round_name}
use Rattle.pp_grammar.specs.StepBodies.{on_late_name, on_late_round, on_want_lambda}
use Rattle.pp_grammar.specs.StepExprs.{on_have, on_name, on_operand_name, on_operator, on_want}
use Rattle.pp_grammar.specs.StepTypes.{refuse}
use Rattle.pp_grammar.specs.Words.{Role, binary_of, int_word, is_minus, is_number, is_sign, level, number_of, plain}
use Rattle.pp_grammar.specs.Words.{res, role, tightest, unary_of, word}
use Rattle.pp_grammar_complete.proofs.ExprSteps.{Reached, have_next, le_true, operator_follows_by, operator_next}
use Rattle.pp_grammar_complete.proofs.ExprSteps.{prefix_step, reaches_fields, unwind_stays}
use Rattle.pp_grammar_complete.proofs.ReachExprs.{reaches_infix}
use Rattle.pp_grammar_complete.proofs.Starts.{starts_with}
use Rattle.pp_grammar_complete.proofs.Steps.{Follows, Go, Run, go_on, take_step}
use Rattle.pp_grammar_sound.proofs.Unwound.{level_in}
use Rattle.pp_tokens.specs.declared.token.Bracket.TheVariants.{CloseRound, Dot}
use Rattle.pp_tokens.specs.declared.token.Operator.{Operator}
use Rattle.pp_tokens.specs.declared.token.Operator.TheVariants.{Arrow, Colon}
use Rattle.pp_tokens.specs.declared.token.Token.{Token}
use Rattle.pp_tokens.specs.declared.token.TokenKind.{TokenKind}
use Rattle.pp_tokens.specs.declared.token.TokenKind.TheVariants.{Hex, Hole, Mark, Name, Number, Op}
use Rattle.pp_tree.specs.Plain.{Tree, Word, binary, name, unary}
use Rattle.pp_tree.specs.declared.operator.BinaryOp.{BinaryOp}
use Rattle.pp_tree.specs.declared.operator.UnaryOp.{UnaryOp}
use Rattle.std.proofs.Common.{Bool, List, Some, [], ap, arith, cond, false, refl, suc, sym, true, ℕ, ℤ, ◌&&◌, ◌==◌, ◌∙◌}
use Rattle.std.proofs.Common.{◌∷◌, ◌≡◌, ◌≤◌}
use Rattle.pp_grammar_complete.proofs.ClaimEnds.{is_plain_next, PlainNext, RoundNext, operator_is_plain, no_round}
use Rattle.pp_grammar_complete.proofs.ClaimEnds.{operator_is_round_next, and_false}

module _ (text : Word) (d : Parsed) (b : Bool) where
  -- ---- holes

  pub hole_step : (h : Token) (us : List Token) (s : List Frame) → h.kind ≡ Hole → takes_hole s ≡ true
      → Run text d b (h ∷ us) s want ≡ Run text d b us s (have (name h.from res) true)
  hole_step h us s is takes =
      take_step text d b h us s want _ is
      ∙ ap (λ x. Go text d b h us (cond x (go s (have (name h.from res) true)) (refuse text h))) takes

  pub record ReachesHole (l : ℕ) (ts us : List Token) (e : Tree) : Type 0 where
    pub reach : (s : List Frame) → floor s ≤ l → takes_hole s ≡ true → Follows us → Reached text d b true l ts us s e

  pub hole_of_tighter : {l : ℕ} {ts us : List Token} {e : Tree} → ReachesHole (suc l) ts us e → ReachesHole l ts us e
  hole_of_tighter r = record {
    reach = λ s fl takes f.
        let h = r.reach s (omega arith) takes f in
        record {
          frames = h.frames;
          tree = h.tree;
          holed = h.holed;
          steps = h.steps;
          unwinds = λ p le. h.unwinds p
              (omega arith);
        };
  }

  pub hole_alone : {us vs : List Token} {e : Tree} (h : Token) → h.kind ≡ Hole
      → IsFields text us vs (name h.from res) e
      → ReachesHole tightest (h ∷ us) vs e
  hole_alone {us = us} {vs = vs} {e = e} h is g = record {
    reach = λ s fl takes f. record {
      frames = s;
      tree = e;
      holed = true;
      steps = hole_step h us s is takes ∙ reaches_fields text d b g s true ∙ have_next text d b vs s e true f;
      unwinds = λ p le. refl;
    };
  }

  pub hole_is_no_number : (t h : Token) (us : List Token) → h.kind ≡ Hole → is_sign t (h ∷ us) ≡ false
  hole_is_no_number t h us is = ap (λ k. is_minus t.kind && (is_number k && (t.to == h.from))) is
      ∙ and_false (is_minus t.kind)

  pub hole_with_prefix : {us vs : List Token} {e : Tree} (t h : Token) (o : Operator) (op : UnaryOp) → t.kind ≡ Op o
      → unary_of o ≡ Some op → h.kind ≡ Hole → IsFields text us vs (name h.from res) e
      → ReachesHole tightest (t ∷ h ∷ us) vs (unary t.from op e)
  hole_with_prefix {us = us} {vs = vs} {e = e} t h o op is is_op is_h g = record {
    reach = λ s fl takes f. record {
      frames = prefixing t.from op ∷ s;
      tree = e;
      holed = true;
      steps = prefix_step text d b t (h ∷ us) s o op is is_op (hole_is_no_number t h us is_h) fl (ap (λ k.
          starts_with k (role (word text h))) is_h)
          ∙ hole_step h us (prefixing t.from op ∷ s) is_h takes ∙ reaches_fields text d b g (prefixing t.from op ∷
          s) true
          ∙ have_next text d b vs (prefixing t.from op ∷ s) e true f;
      unwinds = λ p le. ap (λ c. cond c (unwind p s (unary t.from op e) true) (above (prefixing t.from op ∷ s) e
          true)) (le_true p tightest le);
    };
  }

  pub hole_left : {ts us vs : List Token} {x y : Tree} (t : Token) (o : Operator) (op : BinaryOp)
      → ReachesHole (level op) ts (t ∷ us) x → t.kind ≡ Op o → binary_of o ≡ Some op
      → IsInfix text (suc (level op)) us vs y → ReachesHole (level op) ts vs (binary t.from op x y)
  hole_left {us = us} {x = x} {y = y} t o op r1 is is_op r2 = record {
    reach = λ s fl takes f.
        let two : 2 ≤ level op = (level_in op).0 in
        let h = r1.reach s fl takes (operator_follows_by text d b t us o op is is_op) in
        let g = (reaches_infix text d b r2).reach (left t.from op x true ∷ s) (omega arith) f in
        record {
          frames = g.frames;
          tree = g.tree;
          holed = g.holed;
          steps = h.steps ∙ operator_next text d b t us h.frames h.tree h.holed o op is is_op
              ∙ ap (λ (u : Operand). Go text d b t us (on_operator text t op u)) (h.unwinds (level op) (omega
              arith) ∙ unwind_stays (level op) s x true fl two)
              ∙ g.steps;
          unwinds = λ p le. g.unwinds p (omega arith) ∙ ap (λ c. cond c (unwind p s (binary t.from op x y) true)
              (above (left t.from op x true ∷ s) y false)) (le_true p (level op) le);
        };
  }

  pub hole_right : {ts us vs : List Token} {x y : Tree} (t : Token) (o : Operator) (op : BinaryOp)
      → IsInfix text (level op) ts (t ∷ us) x → t.kind ≡ Op o → binary_of o ≡ Some op
      → ReachesHole (suc (level op)) us vs y → ReachesHole (level op) ts vs (binary t.from op x y)
  hole_right {us = us} {x = x} {y = y} t o op r1 is is_op r2 = record {
    reach = λ s fl takes f.
        let two : 2 ≤ level op = (level_in op).0 in
        let h = (reaches_infix text d b r1).reach s fl (operator_follows_by text d b t us o op is is_op) in
        let g = r2.reach (left t.from op x false ∷ s) (omega arith) takes f in
        record {
          frames = g.frames;
          tree = g.tree;
          holed = g.holed;
          steps = h.steps ∙ operator_next text d b t us h.frames h.tree h.holed o op is is_op
              ∙ ap (λ (u : Operand). Go text d b t us (on_operator text t op u)) (h.unwinds (level op) (omega
              arith) ∙ unwind_stays (level op) s x false fl two)
              ∙ g.steps;
          unwinds = λ p le. g.unwinds p (omega arith) ∙ ap (λ c. cond c (unwind p s (binary t.from op x y) true)
              (above (left t.from op x false ∷ s) y true)) (le_true p (level op) le);
        };
  }

  pub reaches_hole : {l : ℕ} {ts us : List Token} {e : Tree} → IsHole text l ts us e → ReachesHole l ts us e
  reaches_hole (looser_hole r) = hole_of_tighter (reaches_hole r)
  reaches_hole (hole h is f) = hole_alone h is f
  reaches_hole (prefixed_hole t h o op is is_op is_h f) = hole_with_prefix t h o op is is_op is_h f
  reaches_hole (hole_on_left t o op r1 is is_op r2) = hole_left t o op (reaches_hole r1) is is_op r2
  reaches_hole (hole_on_right t o op r1 is is_op r2) = hole_right t o op r1 is is_op (reaches_hole r2)

  -- ---- the first operand of a claim with a hole, which may look like a lambda

  pub lambda_number : (t : Token) (s : List Frame) (n : ℤ) (k : TokenKind) → number_of k ≡ Some n
      → on_want_lambda text t s k ≡ on_want text t (claiming_hole ∷ s) k
  lambda_number t s n (Number j) is = refl
  lambda_number t s n (Hex j) is = refl
  lambda_number t s n _ is = absurd (cc)

  pub round_number : (t : Token) (s : List Frame) (n : ℤ) (k : TokenKind) → number_of k ≡ Some n
      → on_lambda_round text t s k ≡ on_want text t (round ∷ claiming_hole ∷ s) k
  round_number t s n (Number j) is = refl
  round_number t s n (Hex j) is = refl
  round_number t s n _ is = absurd (cc)

  -- two modes that do the same at a token
  pub same_step : (t : Token) (us : List Token) (s r : List Frame) (m n : Mode) (k : TokenKind) → t.kind ≡ k
      → on_mode text t s m k ≡ on_mode text t r n k → Run text d b (t ∷ us) s m ≡ Run text d b (t ∷ us) r n
  same_step t us s r m n k is e = take_step text d b t us s m k is ∙ go_on text d b t us _ _ e
      ∙ sym (take_step text d b t us r n k is)

  pub late_name_by : (t : Token) (s : List Frame) (at : ℕ) (w : Word) (k : TokenKind) → is_plain_next k ≡ true
      → role w ≡ plain
      → on_lambda_name text t s at w k ≡ on_name text t (claiming_hole ∷ s) at w k
  late_name_by t s at w (Op Arrow) is r = absurd (cc)
  late_name_by t s at w (Op Colon) is r = absurd (cc)
  late_name_by t s at w k is r = ap (λ x. on_late_name text t (claiming_hole ∷ s) at w x k) r

  pub late_name : (us : List Token) (s : List Frame) (at : ℕ) (w : Word) → PlainNext us → role w ≡ plain
      → Run text d b us s (after_lambda_name at w) ≡ Run text d b us (claiming_hole ∷ s) (after_name at w)
  late_name [] s at w f r = absurd f
  late_name (t ∷ us) s at w f r = go_on text d b t us _ _ (late_name_by t s at w t.kind f r)

  pub closed_name_by : (t : Token) (s : List Frame) (at : ℕ) (w : Word) (k : TokenKind) → is_plain_next k ≡ true
      → role w ≡ plain
      → on_lambda_closed text t s at w k ≡ on_have text t (claiming_hole ∷ s) (name at w) false k
  closed_name_by t s at w (Op Arrow) is r = absurd (cc)
  closed_name_by t s at w k is r = ap (λ x. on_late_round text t (claiming_hole ∷ s) at w x k) r

  pub closed_name : (us : List Token) (s : List Frame) (at : ℕ) (w : Word) → PlainNext us → role w ≡ plain
      → Run text d b us s (after_lambda_closed at w) ≡ Run text d b us (claiming_hole ∷ s) (have (name at w) false)
  closed_name [] s at w f r = absurd f
  closed_name (t ∷ us) s at w f r = go_on text d b t us _ _ (closed_name_by t s at w t.kind f r)

  pub round_name_by : (t : Token) (us : List Token) (s : List Frame) (at : ℕ) (w : Word) (k : TokenKind) → t.kind ≡ k
      → is_plain_next k ≡ true → (k ≡ Mark CloseRound → PlainNext us) → role w ≡ plain
      → Go text d b t us (on_lambda_round_name text t s at w k) ≡ Go text d b t us (on_name text t (round ∷
      claiming_hole ∷ s) at w k)
  round_name_by t us s at w (Mark CloseRound) is f n r = closed_name us s at w (n refl) r
  round_name_by t us s at w (Op Colon) is f n r = absurd (cc)
  round_name_by t us s at w k is f n r =
      go_on text d b t us _ _ (ap (λ x. on_late_name text t (round ∷ claiming_hole ∷ s) at w x k) r)

  pub round_name : (us : List Token) (s : List Frame) (at : ℕ) (w : Word) → RoundNext us → role w ≡ plain
      → Run text d b us s (after_lambda_round_name at w) ≡ Run text d b us (round ∷ claiming_hole ∷ s) (after_name
      at w)
  round_name [] s at w f r = absurd f
  round_name (t ∷ us) s at w f r = round_name_by t us s at w t.kind refl f.0 f.1 r

  pub name_first : (t : Token) (us : List Token) (s : List Frame) (r : Role) → t.kind ≡ Name → role (word text t) ≡ r
      → Run text d b (t ∷ us) s want ≡ Go text d b t us (on_operand_name text t s r)
  name_first t us s r is is_r =
      take_step text d b t us s want _ is ∙ ap (λ x. Go text d b t us (on_operand_name text t s x)) is_r

  pub plain_dot : (dot : Token) (us : List Token) → dot.kind ≡ Mark Dot → PlainNext (dot ∷ us)
  plain_dot dot us is = ap is_plain_next is

  pub fields_plain : {us vs : List Token} {e x : Tree} → IsFields text us vs e x → PlainNext vs → PlainNext us
  fields_plain no_field f = f
  fields_plain (one_field dot t is_d is r g) f = ap is_plain_next is_d

  pub fields_round : {us vs : List Token} {e x : Tree} → IsFields text us vs e x → RoundNext vs → RoundNext us
  fields_round no_field f = f
  fields_round (one_field {us = us} dot t is_d is r g) f = (
    ap is_plain_next is_d,
    no_round dot (t ∷ us) _ is_d (λ
        e. cc),
  )

  -- behind `(`
  pub round_primary : {ts us : List Token} {e : Tree} (s : List Frame) → IsPrimary text ts us e → RoundNext us
      → Run text d b ts s after_lambda_round ≡ Run text d b ts (round ∷ claiming_hole ∷ s) want
  round_primary {us = us} s (number {n = n} t is) f = go_on text d b t us _ _ (round_number t s n t.kind is)
  round_primary {us = us} s (true_word t is) f = same_step t us s (round ∷ claiming_hole ∷ s) after_lambda_round
      want _ is refl
  round_primary {us = us} s (false_word t is) f = same_step t us s (round ∷ claiming_hole ∷ s) after_lambda_round
      want _ is refl
  round_primary {us = us} s (bound i dot t is r is_d is_t e) f =
      let g : List Frame = round ∷ claiming_hole ∷ s in let w : Word = word text i in
      take_step text d b i (dot ∷ t ∷ us) s after_lambda_round _ is
      ∙ take_step text d b dot (t ∷ us) s (after_lambda_round_name i.from w) _ is_d
      ∙ ap (λ x. Go text d b dot (t ∷ us) (on_late_name text dot g i.from w x (Mark Dot))) r
      ∙ sym (name_first i (dot ∷ t ∷ us) g int_word is r ∙ take_step text d b dot (t ∷ us) g (after_int i.from) _
      is_d)
  round_primary {us = us} s (name_alone t is r) f =
      take_step text d b t us s after_lambda_round _ is ∙ round_name us s t.from (word text t) f r
      ∙ sym (name_first t us (round ∷ claiming_hole ∷ s) plain is r)
  round_primary s (at_types {ts = ts} t o is r is_o tys) f =
      take_step text d b t (o ∷ ts) s after_lambda_round _ is
      ∙ round_name (o ∷ ts) s t.from (word text t) (ap is_plain_next is_o, no_round o ts _ is_o (λ e. cc)) r
      ∙ sym (name_first t (o ∷ ts) (round ∷ claiming_hole ∷ s) plain is r)
  round_primary s (on_arguments t is r (no_arguments {us = us} o c is_o is_c)) f =
      take_step text d b t (o ∷ c ∷ us) s after_lambda_round _ is
      ∙ round_name (o ∷ c ∷ us) s t.from (word text t) (ap is_plain_next is_o, no_round o (c ∷ us) _ is_o (λ e. cc)) r
      ∙ sym (name_first t (o ∷ c ∷ us) (round ∷ claiming_hole ∷ s) plain is r)
  round_primary s (on_arguments t is r (arguments {ts = ts} o is_o es)) f =
      take_step text d b t (o ∷ ts) s after_lambda_round _ is
      ∙ round_name (o ∷ ts) s t.from (word text t) (ap is_plain_next is_o, no_round o ts _ is_o (λ e. cc)) r
      ∙ sym (name_first t (o ∷ ts) (round ∷ claiming_hole ∷ s) plain is r)
  round_primary s (at_types_on_arguments {ts = ts} t o is r is_o tys es) f =
      take_step text d b t (o ∷ ts) s after_lambda_round _ is
      ∙ round_name (o ∷ ts) s t.from (word text t) (ap is_plain_next is_o, no_round o ts _ is_o (λ e. cc)) r
      ∙ sym (name_first t (o ∷ ts) (round ∷ claiming_hole ∷ s) plain is r)
  round_primary s (in_round {ts = ts} o c is r is_c) f =
      same_step o ts s (round ∷ claiming_hole ∷ s) after_lambda_round want _ is refl
  round_primary s (in_block (block {ts = ts} o c is r is_c)) f =
      same_step o ts s (round ∷ claiming_hole ∷ s) after_lambda_round want _ is refl

  pub round_prefix : {ts us : List Token} {e : Tree} (s : List Frame) → IsPrefix text ts us e → RoundNext us
      → Run text d b ts s after_lambda_round ≡ Run text d b ts (round ∷ claiming_hole ∷ s) want
  round_prefix s (no_prefix (simple p g)) f = round_primary s p (fields_round g f)
  round_prefix s (prefixed {ts = ts} t o op is is_op sign r) f =
      same_step t ts s (round ∷ claiming_hole ∷ s) after_lambda_round want _ is refl
  round_prefix s (negative {us = us} m t is sign n g) f =
      same_step m (t ∷ us) s (round ∷ claiming_hole ∷ s) after_lambda_round want _ is refl

  pub round_infix : {l : ℕ} {ts us : List Token} {e : Tree} (s : List Frame) → IsInfix text l ts us e → RoundNext us
      → Run text d b ts s after_lambda_round ≡ Run text d b ts (round ∷ claiming_hole ∷ s) want
  round_infix s (looser r) f = round_infix s r f
  round_infix s (operand r) f = round_prefix s r f
  round_infix s (operator {us = us} t o op r is is_op q) f = round_infix s r (operator_is_round_next t us o op is
      is_op)

  pub round_expr : {ts us : List Token} {e : Tree} (s : List Frame) → IsExpr text ts us e → RoundNext us
      → Run text d b ts s after_lambda_round ≡ Run text d b ts (round ∷ claiming_hole ∷ s) want
  round_expr s (if_else {ts = ts} i o c e is is_o x is_c br a sc is_e r) f =
      same_step i (o ∷ ts) s (round ∷ claiming_hole ∷ s) after_lambda_round want _ is refl
  round_expr s (matched (match_of {us = us} m o x is_m is_o cs)) f =
      round_infix s x (ap is_plain_next is_m, no_round m (o ∷ us) _ is_m (λ e. cc))
  round_expr s (infix_expr r) f = round_infix s r f

  -- where a lambda may come
  pub lambda_primary : {ts us : List Token} {e : Tree} (s : List Frame) → IsPrimary text ts us e → PlainNext us
      → Run text d b ts s want_lambda ≡ Run text d b ts (claiming_hole ∷ s) want
  lambda_primary {us = us} s (number {n = n} t is) f = go_on text d b t us _ _ (lambda_number t s n t.kind is)
  lambda_primary {us = us} s (true_word t is) f = same_step t us s (claiming_hole ∷ s) want_lambda want _ is refl
  lambda_primary {us = us} s (false_word t is) f = same_step t us s (claiming_hole ∷ s) want_lambda want _ is refl
  lambda_primary {us = us} s (bound i dot t is r is_d is_t e) f =
      let g : List Frame = claiming_hole ∷ s in let w : Word = word text i in
      take_step text d b i (dot ∷ t ∷ us) s want_lambda _ is
      ∙ take_step text d b dot (t ∷ us) s (after_lambda_name i.from w) _ is_d
      ∙ ap (λ x. Go text d b dot (t ∷ us) (on_late_name text dot g i.from w x (Mark Dot))) r
      ∙ sym (name_first i (dot ∷ t ∷ us) g int_word is r ∙ take_step text d b dot (t ∷ us) g (after_int i.from) _
      is_d)
  lambda_primary {us = us} s (name_alone t is r) f =
      take_step text d b t us s want_lambda _ is ∙ late_name us s t.from (word text t) f r
      ∙ sym (name_first t us (claiming_hole ∷ s) plain is r)
  lambda_primary s (at_types {ts = ts} t o is r is_o tys) f =
      take_step text d b t (o ∷ ts) s want_lambda _ is ∙ late_name (o ∷ ts) s t.from (word text t) (ap
      is_plain_next is_o) r
      ∙ sym (name_first t (o ∷ ts) (claiming_hole ∷ s) plain is r)
  lambda_primary s (on_arguments t is r (no_arguments {us = us} o c is_o is_c)) f =
      take_step text d b t (o ∷ c ∷ us) s want_lambda _ is
      ∙ late_name (o ∷ c ∷ us) s t.from (word text t) (ap is_plain_next is_o) r
      ∙ sym (name_first t (o ∷ c ∷ us) (claiming_hole ∷ s) plain is r)
  lambda_primary s (on_arguments t is r (arguments {ts = ts} o is_o es)) f =
      take_step text d b t (o ∷ ts) s want_lambda _ is ∙ late_name (o ∷ ts) s t.from (word text t) (ap
      is_plain_next is_o) r
      ∙ sym (name_first t (o ∷ ts) (claiming_hole ∷ s) plain is r)
  lambda_primary s (at_types_on_arguments {ts = ts} t o is r is_o tys es) f =
      take_step text d b t (o ∷ ts) s want_lambda _ is ∙ late_name (o ∷ ts) s t.from (word text t) (ap
      is_plain_next is_o) r
      ∙ sym (name_first t (o ∷ ts) (claiming_hole ∷ s) plain is r)
  lambda_primary s (in_round {ts = ts} o c is r is_c) f =
      take_step text d b o ts s want_lambda _ is ∙ round_expr s r (ap is_plain_next is_c, λ e. f)
      ∙ sym (take_step text d b o ts (claiming_hole ∷ s) want _ is)
  lambda_primary s (in_block (block {ts = ts} o c is r is_c)) f = same_step o ts s (claiming_hole ∷ s) want_lambda
      want _ is refl

  pub lambda_prefix : {ts us : List Token} {e : Tree} (s : List Frame) → IsPrefix text ts us e → PlainNext us
      → Run text d b ts s want_lambda ≡ Run text d b ts (claiming_hole ∷ s) want
  lambda_prefix s (no_prefix (simple p g)) f = lambda_primary s p (fields_plain g f)
  lambda_prefix s (prefixed {ts = ts} t o op is is_op sign r) f =
      same_step t ts s (claiming_hole ∷ s) want_lambda want _ is refl
  lambda_prefix s (negative {us = us} m t is sign n g) f =
      same_step m (t ∷ us) s (claiming_hole ∷ s) want_lambda want _ is refl

  pub lambda_infix : {l : ℕ} {ts us : List Token} {e : Tree} (s : List Frame) → IsInfix text l ts us e → PlainNext us
      → Run text d b ts s want_lambda ≡ Run text d b ts (claiming_hole ∷ s) want
  lambda_infix s (looser r) f = lambda_infix s r f
  lambda_infix s (operand r) f = lambda_prefix s r f
  lambda_infix s (operator {us = us} t o op r is is_op q) f = lambda_infix s r (operator_is_plain t us o op is is_op)

  pub lambda_hole : {l : ℕ} {ts us : List Token} {e : Tree} (s : List Frame) → IsHole text l ts us e
      → Run text d b ts s want_lambda ≡ Run text d b ts (claiming_hole ∷ s) want
  lambda_hole s (looser_hole r) = lambda_hole s r
  lambda_hole s (hole {us = us} h is g) = same_step h us s (claiming_hole ∷ s) want_lambda want _ is refl
  lambda_hole s (prefixed_hole {us = us} t h o op is is_op is_h g) =
      same_step t (h ∷ us) s (claiming_hole ∷ s) want_lambda want _ is refl
  lambda_hole s (hole_on_left t o op r is is_op q) = lambda_hole s r
  lambda_hole s (hole_on_right {us = us} t o op r is is_op q) = lambda_infix s r (operator_is_plain t us o op is
      is_op)

-- Steps of the automaton in expressions, and what the next token tells of them.
use Rattle.pp_tree.specs.declared.operator.UnaryOp.TheVariants as unary_op
use Rattle.std.specs.Prelude.{nat_le}
use Rattle.pp_grammar.specs.Exprs.{IsFields, no_field, one_field}
use Rattle.pp_grammar.specs.Frames.{Frame, Parsed, State, after_assert, after_dot, after_minus, after_name}
use Rattle.pp_grammar.specs.Frames.{after_name_types, after_negative_dot, after_val, arm, braces, go, have}
use Rattle.pp_grammar.specs.Frames.{have_matched, have_negative, head_braces, if_rest, left, prefixing, want}
use Rattle.pp_grammar.specs.Joining.{Operand, above, floor, unwind}
use Rattle.pp_grammar.specs.StepExprs.{on_binary, on_dot_name, on_expr_end, on_have, on_have_matched, on_have_negative}
use Rattle.pp_grammar.specs.StepExprs.{on_name, on_name_types, on_negative, on_negative_field, on_number, on_operand}
use Rattle.pp_grammar.specs.StepExprs.{on_operand_name, on_operator, on_unwound, on_want}
use Rattle.pp_grammar.specs.StepTypes.{refuse}
use Rattle.pp_grammar.specs.Words.{Role, binary_of, is_sign, level, negative_of, number_of, plain, role, tightest}
use Rattle.pp_grammar.specs.Words.{unary_of, word}
use Rattle.pp_grammar_complete.proofs.Starts.{Starts}
use Rattle.pp_grammar_complete.proofs.Steps.{Closes, Ends, Follows, Go, Run, closes, go_on, goes_on, goes_on_operand}
use Rattle.pp_grammar_complete.proofs.Steps.{sign_is, take_step}
use Rattle.pp_grammar_sound.proofs.Unwound.{le_cases}
use Rattle.pp_tokens.specs.declared.token.Bracket.TheVariants.{CloseBrace, CloseRound, Comma, Dot, OpenRound}
use Rattle.pp_tokens.specs.declared.token.Bracket.TheVariants.{OpenSquare, Semicolon}
use Rattle.pp_tokens.specs.declared.token.Operator.{Operator}
use Rattle.pp_tokens.specs.declared.token.Operator.TheVariants.{Arrow, At, Flip, Minus, Not}
use Rattle.pp_tokens.specs.declared.token.Reserved.TheVariants.{Case, Else}
use Rattle.pp_tokens.specs.declared.token.Token.{Token}
use Rattle.pp_tokens.specs.declared.token.TokenKind.{TokenKind}
use Rattle.pp_tokens.specs.declared.token.TokenKind.TheVariants.{Hex, Mark, Name, Newline, Number, Op, Word as Reserve}
use Rattle.pp_tree.specs.Plain.{Tree, TypeTrees, Word, apply, field, int, name, no_trees}
use Rattle.pp_tree.specs.declared.operator.BinaryOp.{BinaryOp}
use Rattle.pp_tree.specs.declared.operator.UnaryOp.{UnaryOp}
use Rattle.std.proofs.Common.{Bool, List, Some, [], ap, arith, cond, false, inl, inr, refl, true, ℕ, ℤ, ◌∙◌, ◌∷◌, ◌≡◌}
use Rattle.std.proofs.Common.{◌≤◌}

pub le_true : (p l : ℕ) → p ≤ l → nat_le p l ≡ true
le_true p l le = elim (le_cases p l) [ inl h ↦ h.0 | inr h ↦ absurd (omega arith) ]

-- what binds tighter than all that is open stays
pub unwind_stays : (p : ℕ) (s : List Frame) (e : Tree) (h : Bool) → floor s ≤ p → 2 ≤ p → unwind p s e h ≡ above s e h
unwind_stays p [] e h f two = refl
unwind_stays p (prefixing a op ∷ s) e h f two =
    elim (le_cases p tightest) [ inl c ↦ absurd (omega arith) | inr c ↦ rw c.0 ]
unwind_stays p (left a op x g ∷ s) e h f two =
    elim (le_cases p (level op)) [ inl c ↦ absurd (omega arith) | inr c ↦ rw c.0 ]
unwind_stays p (if_rest a c x ∷ s) e h f two =
    elim (le_cases p 0) [ inl k ↦ absurd (omega arith) | inr k ↦ rw k.0 ]
unwind_stays p (_ ∷ s) e h f two = refl

-- the frames in which statements stand
abbrev pub is_stat : List Frame → Bool
is_stat (braces ∷ s) = true
is_stat (head_braces c ∷ s) = true
is_stat (arm p g ∷ s) = true
is_stat (after_val a w t x ∷ s) = true
is_stat (after_assert a x ∷ s) = true
is_stat _ = false

pub stat_stays : (s : List Frame) (e : Tree) → is_stat s ≡ true → unwind 0 s e false ≡ above s e false
stat_stays (braces ∷ s) e is = refl
stat_stays (head_braces c ∷ s) e is = refl
stat_stays (arm p g ∷ s) e is = refl
stat_stays (after_val a w t x ∷ s) e is = refl
stat_stays (after_assert a x ∷ s) e is = refl
stat_stays _ e is = absurd (cc)

pub stat_floor : (s : List Frame) → is_stat s ≡ true → floor s ≤ 0
stat_floor (braces ∷ s) is = omega arith
stat_floor (head_braces c ∷ s) is = omega arith
stat_floor (arm p g ∷ s) is = omega arith
stat_floor (after_val a w t x ∷ s) is = omega arith
stat_floor (after_assert a x ∷ s) is = omega arith
stat_floor _ is = absurd (cc)

-- the tokens that end a block or a case
abbrev pub ends_rest : TokenKind → Bool
ends_rest (Mark CloseBrace) = true
ends_rest (Reserve Case) = true
ends_rest _ = false

abbrev pub RestEnds : List Token → Type 0
RestEnds [] = ⊥
RestEnds (t ∷ ts) = ends_rest t.kind ≡ true

pub rest_closes_by : (k : TokenKind) → ends_rest k ≡ true → closes k ≡ true
rest_closes_by (Mark CloseBrace) is = refl
rest_closes_by (Reserve Case) is = refl
rest_closes_by _ is = absurd (cc)

pub rest_closes : (ts : List Token) → RestEnds ts → Closes ts
rest_closes [] r = r
rest_closes (t ∷ ts) r = rest_closes_by t.kind r

abbrev pub behind_first : List Token → List Token
behind_first [] = []
behind_first (t ∷ ts) = ts

abbrev pub IsCaseHead : List Token → Type 0
IsCaseHead [] = ⊥
IsCaseHead (t ∷ ts) = t.kind ≡ Reserve Case

pub case_ends_rest : (ts : List Token) → IsCaseHead ts → RestEnds ts
case_ends_rest [] h = h
case_ends_rest (t ∷ ts) h = ap ends_rest h

module _ (text : Word) (d : Parsed) (b : Bool) where
  -- the state behind an operand, and behind an expression
  abbrev pub Next : List Token → List Frame → Tree → Bool → State
  Next [] s e h = Run text d b [] s (have e h)
  Next (t ∷ ts) s e h = Go text d b t ts (on_operand text t s e h t.kind)

  abbrev pub Ended : List Token → Operand → State
  Ended [] u = Run text d b [] u.frames (have u.tree u.holed)
  Ended (t ∷ ts) u = Go text d b t ts (on_unwound text t u t.kind)

  -- .. behind the last expression of a block or a case
  abbrev pub EndRest : List Token → List Frame → Tree → State
  EndRest [] s e = Run text d b [] s (have e false)
  EndRest (t ∷ ts) s e = Go text d b t ts (on_expr_end text t s e t.kind)

  pub ended_step : (t : Token) (ts : List Token) (u : Operand) (k : TokenKind) → t.kind ≡ k
      → Ended (t ∷ ts) u ≡ Go text d b t ts (on_unwound text t u k)
  ended_step t ts u k is = ap (λ x. Go text d b t ts (on_unwound text t u x)) is

  pub end_rest_step : (t : Token) (ts : List Token) (s : List Frame) (e : Tree) (k : TokenKind) → t.kind ≡ k
      → EndRest (t ∷ ts) s e ≡ Go text d b t ts (on_expr_end text t s e k)
  end_rest_step t ts s e k is = ap (λ x. Go text d b t ts (on_expr_end text t s e x)) is

  pub have_step : (t : Token) (s : List Frame) (e : Tree) (h : Bool) (k : TokenKind) → goes_on_operand k ≡ false
      → on_have text t s e h k ≡ on_operand text t s e h k
  have_step t s e h (Mark Dot) is = absurd (cc)
  have_step t s e h _ is = refl

  pub have_next : (ts : List Token) (s : List Frame) (e : Tree) (h : Bool) → Follows ts
      → Run text d b ts s (have e h) ≡ Next ts s e h
  have_next [] s e h f = refl
  have_next (t ∷ ts) s e h f = go_on text d b t ts _ _ (have_step t s e h t.kind f)

  pub negative_step : (t : Token) (s : List Frame) (e : Tree) (k : TokenKind) → goes_on_operand k ≡ false
      → on_have_negative text t s e k ≡ on_operand text t s e false k
  negative_step t s e (Mark Dot) is = absurd (cc)
  negative_step t s e _ is = refl

  pub negative_next : (ts : List Token) (s : List Frame) (e : Tree) → Follows ts
      → Run text d b ts s (have_negative e) ≡ Next ts s e false
  negative_next [] s e f = absurd f
  negative_next (t ∷ ts) s e f = go_on text d b t ts _ _ (negative_step t s e t.kind f)

  pub closing_step : (t : Token) (s : List Frame) (e : Tree) (h : Bool) (k : TokenKind) → closes k ≡ true
      → on_operand text t s e h k ≡ on_unwound text t (unwind 0 s e h) k
  closing_step t s e h (Mark CloseRound) is = refl
  closing_step t s e h (Mark Comma) is = refl
  closing_step t s e h (Mark CloseBrace) is = refl
  closing_step t s e h (Mark Semicolon) is = refl
  closing_step t s e h Newline is = refl
  closing_step t s e h (Reserve Else) is = refl
  closing_step t s e h (Reserve Case) is = refl
  closing_step t s e h _ is = absurd (cc)

  pub next_ended : (ts : List Token) (s : List Frame) (e : Tree) (h : Bool) → Closes ts
      → Next ts s e h ≡ Ended ts (unwind 0 s e h)
  next_ended [] s e h c = absurd c
  next_ended (t ∷ ts) s e h c = go_on text d b t ts _ _ (closing_step t s e h t.kind c)

  pub matched_step : (t : Token) (s : List Frame) (e : Tree) (k : TokenKind) → closes k ≡ true
      → on_have_matched text t s e k ≡ on_unwound text t (unwind 0 s e false) k
  matched_step t s e (Mark CloseRound) is = refl
  matched_step t s e (Mark Comma) is = refl
  matched_step t s e (Mark CloseBrace) is = refl
  matched_step t s e (Mark Semicolon) is = refl
  matched_step t s e Newline is = refl
  matched_step t s e (Reserve Else) is = refl
  matched_step t s e (Reserve Case) is = refl
  matched_step t s e _ is = absurd (cc)

  pub matched_ended : (ts : List Token) (s : List Frame) (e : Tree) → Closes ts
      → Run text d b ts s (have_matched e) ≡ Ended ts (unwind 0 s e false)
  matched_ended [] s e c = absurd c
  matched_ended (t ∷ ts) s e c = go_on text d b t ts _ _ (matched_step t s e t.kind c)

  -- an operand is read: with what is open it unwinds like the tree
  pub record Reached (h : Bool) (l : ℕ) (ts us : List Token) (s : List Frame) (e : Tree) : Type 0 where
    pub frames : List Frame
    pub tree : Tree
    pub holed : Bool
    pub steps : Run text d b ts s want ≡ Next us frames tree holed
    pub unwinds : (p : ℕ) → p ≤ l → unwind p frames tree holed ≡ unwind p s e h

  -- an operator behind an operand
  pub operator_step : (t : Token) (s : List Frame) (e : Tree) (h : Bool) (o : Operator) (op : BinaryOp)
      → binary_of o ≡ Some op → on_operand text t s e h (Op o) ≡ on_operator text t op (unwind (level op) s e h)
  operator_step t s e h Arrow op is = absurd (cc)
  operator_step t s e h o op is = ap (on_binary text t s e h) is

  pub operator_follows : (o : Operator) (op : BinaryOp) → binary_of o ≡ Some op → goes_on_operand (Op o) ≡ false
  operator_follows At op is = absurd (cc)
  operator_follows o op is = refl

  pub operator_next : (t : Token) (us : List Token) (s : List Frame) (e : Tree) (h : Bool) (o : Operator) (op :
      BinaryOp)
      → t.kind ≡ Op o → binary_of o ≡ Some op
      → Next (t ∷ us) s e h ≡ Go text d b t us (on_operator text t op (unwind (level op) s e h))
  operator_next t us s e h o op is is_op =
      ap (λ k. Go text d b t us (on_operand text t s e h k)) is ∙ go_on text d b t us _ _ (operator_step t s e h o
      op is_op)

  pub operator_follows_by : (t : Token) (us : List Token) (o : Operator) (op : BinaryOp) → t.kind ≡ Op o
      → binary_of o ≡ Some op → Follows (t ∷ us)
  operator_follows_by t us o op is is_op = ap goes_on_operand is ∙ operator_follows o op is_op

  -- ---- simple expressions

  pub number_step : (t : Token) (s : List Frame) (n : ℤ) (k : TokenKind) → number_of k ≡ Some n
      → on_want text t s k ≡ go s (have (int t.from n) false)
  number_step t s n (Number m) is = ap (on_number text t s) is
  number_step t s n (Hex m) is = ap (on_number text t s) is
  number_step t s n _ is = absurd (cc)

  pub name_step : (t : Token) (us : List Token) (s : List Frame) (r : Role) → t.kind ≡ Name → role (word text t) ≡ r
      → Run text d b (t ∷ us) s want ≡ Go text d b t us (on_operand_name text t s r)
  name_step t us s r is is_r =
      take_step text d b t us s want _ is ∙ ap (λ x. Go text d b t us (on_operand_name text t s x)) is_r

  pub name_have_step : (t : Token) (s : List Frame) (at : ℕ) (w : Word) (k : TokenKind) → goes_on k ≡ false
      → on_name text t s at w k ≡ on_have text t s (name at w) false k
  name_have_step t s at w (Mark OpenSquare) is = absurd (cc)
  name_have_step t s at w (Mark OpenRound) is = absurd (cc)
  name_have_step t s at w _ is = refl

  pub name_have : (ts : List Token) (s : List Frame) (at : ℕ) (w : Word) → Ends ts
      → Run text d b ts s (after_name at w) ≡ Run text d b ts s (have (name at w) false)
  name_have [] s at w f = absurd f
  name_have (t ∷ ts) s at w f = go_on text d b t ts _ _ (name_have_step t s at w t.kind f)

  pub types_have_step : (t : Token) (s : List Frame) (at : ℕ) (w : Word) (tys : TypeTrees) (k : TokenKind)
      → goes_on k ≡ false → on_name_types text t s at w tys k ≡ on_have text t s (apply at w tys no_trees) false k
  types_have_step t s at w tys (Mark OpenRound) is = absurd (cc)
  types_have_step t s at w tys _ is = refl

  pub types_have : (ts : List Token) (s : List Frame) (at : ℕ) (w : Word) (tys : TypeTrees) → Ends ts
      → Run text d b ts s (after_name_types at w tys) ≡ Run text d b ts s (have (apply at w tys no_trees) false)
  types_have [] s at w tys f = absurd f
  types_have (t ∷ ts) s at w tys f = go_on text d b t ts _ _ (types_have_step t s at w tys t.kind f)

  pub field_step : (dot t : Token) (us : List Token) (s : List Frame) (e : Tree) (h : Bool) → dot.kind ≡ Mark Dot
      → t.kind ≡ Name → role (word text t) ≡ plain
      → Run text d b (dot ∷ t ∷ us) s (have e h) ≡ Run text d b us s (have (field t.from e (word text t)) h)
  field_step dot t us s e h is_d is r =
      take_step text d b dot (t ∷ us) s (have e h) _ is_d ∙ take_step text d b t us s (after_dot e h) _ is
      ∙ ap (λ x. Go text d b t us (on_dot_name text t s e h x)) r

  pub reaches_fields : {us vs : List Token} {e x : Tree} → IsFields text us vs e x → (s : List Frame) (h : Bool)
      → Run text d b us s (have e h) ≡ Run text d b vs s (have x h)
  reaches_fields no_field s h = refl
  reaches_fields (one_field {us = us} {e = e} dot t is_d is r f) s h =
      field_step dot t us s e h is_d is r ∙ reaches_fields f s h

  pub negative_field_step : (dot t : Token) (us : List Token) (s : List Frame) (e : Tree) → dot.kind ≡ Mark Dot
      → t.kind ≡ Name → role (word text t) ≡ plain
      → Run text d b (dot ∷ t ∷ us) s (have_negative e) ≡ Run text d b us s (have_negative (field t.from e (word
      text t)))
  negative_field_step dot t us s e is_d is r =
      take_step text d b dot (t ∷ us) s (have_negative e) _ is_d ∙ take_step text d b t us s (after_negative_dot e)
      _ is
      ∙ ap (λ x. Go text d b t us (on_negative_field text t s e x)) r

  pub reaches_negative_fields : {us vs : List Token} {e x : Tree} → IsFields text us vs e x → (s : List Frame)
      → Run text d b us s (have_negative e) ≡ Run text d b vs s (have_negative x)
  reaches_negative_fields no_field s = refl
  reaches_negative_fields (one_field {us = us} {e = e} dot t is_d is r f) s =
      negative_field_step dot t us s e is_d is r ∙ reaches_negative_fields f s

  pub fields_end : {us vs : List Token} {e x : Tree} → IsFields text us vs e x → Ends vs → Ends us
  fields_end no_field f = f
  fields_end (one_field dot t is_d is r g) f = ap goes_on is_d

  pub minus_first : (m : Token) (us : List Token) (s : List Frame) → m.kind ≡ Op Minus → floor s ≤ tightest
      → Run text d b (m ∷ us) s want ≡ Run text d b us s (after_minus m.from m.to)
  minus_first m us s is fl =
      take_step text d b m us s want _ is
      ∙ ap (λ x. Go text d b m us (cond x (go s (after_minus m.from m.to)) (refuse text m))) (le_true _ _ fl)

  pub minus_no_sign : (m : Token) (us : List Token) (s : List Frame) → m.kind ≡ Op Minus → is_sign m us ≡ false
      → Starts text us
      → Run text d b us s (after_minus m.from m.to) ≡ Run text d b us (prefixing m.from unary_op.Neg ∷ s) want
  minus_no_sign m [] s is e st = absurd st
  minus_no_sign m (t ∷ us) s is e st =
      go_on text d b t us _ _ (ap (λ x. cond x (on_negative text t s m.from (negative_of t.kind)) (on_want text t
      (prefixing m.from unary_op.Neg ∷ s) t.kind)) (sign_is m t us false is e))

  -- a prefix
  pub prefix_step : (t : Token) (us : List Token) (s : List Frame) (o : Operator) (op : UnaryOp) → t.kind ≡ Op o
      → unary_of o ≡ Some op → is_sign t us ≡ false → floor s ≤ tightest → Starts text us
      → Run text d b (t ∷ us) s want ≡ Run text d b us (prefixing t.from op ∷ s) want
  prefix_step t us s Minus op is is_op sign fl st =
      let e : unary_op.Neg ≡ op = cc in
      minus_first t us s is fl ∙ minus_no_sign t us s is sign st
      ∙ ap (λ (x : UnaryOp). Run text d b us (prefixing t.from x ∷ s) want) e
  prefix_step t us s Not op is is_op sign fl st =
      let e : unary_op.Not ≡ op = cc in
      take_step text d b t us s want _ is
      ∙ ap (λ x. Go text d b t us (cond x (go (prefixing t.from unary_op.Not ∷ s) want) (refuse text t))) (le_true
      _ _ fl)
      ∙ ap (λ (x : UnaryOp). Run text d b us (prefixing t.from x ∷ s) want) e
  prefix_step t us s Flip op is is_op sign fl st =
      let e : unary_op.Flip ≡ op = cc in
      take_step text d b t us s want _ is
      ∙ ap (λ x. Go text d b t us (cond x (go (prefixing t.from unary_op.Flip ∷ s) want) (refuse text t))) (le_true
      _ _ fl)
      ∙ ap (λ (x : UnaryOp). Run text d b us (prefixing t.from x ∷ s) want) e
  prefix_step t us s o op is is_op sign fl st = absurd (cc)

  pub signed_step : (m t : Token) (us : List Token) (s : List Frame) (n : ℤ) → m.kind ≡ Op Minus
      → is_sign m (t ∷ us) ≡ true → negative_of t.kind ≡ Some n → floor s ≤ tightest
      → Run text d b (m ∷ t ∷ us) s want ≡ Run text d b us s (have_negative (int m.from n))
  signed_step m t us s n is sign r fl =
      minus_first m (t ∷ us) s is fl
      ∙ go_on text d b t us _ _ (ap (λ x. cond x (on_negative text t s m.from (negative_of t.kind)) (on_want text t
      (prefixing m.from unary_op.Neg ∷ s) t.kind)) (sign_is m t us true is sign)
      ∙ ap (on_negative text t s m.from) r)

-- Each step in an expression keeps what the modes say.
-- no operand is wanted tighter than a simple expression
use Rattle.pp_tree.specs.declared.operator.UnaryOp.TheVariants as unary_op
use Rattle.std.specs.Prelude.{nat_le}
use Rattle.pp_grammar.specs.Bodies.{IsBody, IsClosed, IsHead, closed_simple, dot_holds, head_infix, holding_at, holds}
use Rattle.pp_grammar.specs.Exprs.{IsInfix, false_word, guard, negative, no_field, number, operand, simple, true_word}
use Rattle.pp_grammar.specs.Frames.{Frame, Head, after_if, after_match, after_minus, body_of, claiming_hole, go}
use Rattle.pp_grammar.specs.Frames.{guarding, have, left, prefixing, want}
use Rattle.pp_grammar.specs.Joining.{Operand, floor, no_contracts, takes_hole, unwind}
use Rattle.pp_grammar.specs.StepExprs.{on_binary, on_dot, on_dot_name, on_ensuring, on_guard, on_have, on_have_negative}
use Rattle.pp_grammar.specs.StepExprs.{on_holds, on_if, on_match, on_minus, on_negative, on_negative_dot}
use Rattle.pp_grammar.specs.StepExprs.{on_negative_field, on_number, on_operand, on_operand_name, on_operator}
use Rattle.pp_grammar.specs.StepExprs.{on_post_operand, on_post_word, on_want, on_want_then}
use Rattle.pp_grammar.specs.StepTypes.{refuse}
use Rattle.pp_grammar.specs.Types.{no_semi}
use Rattle.pp_grammar.specs.Words.{Role, binary_of, ensuring_word, holds_word, int_word, is_dot, is_minus, is_sign}
use Rattle.pp_grammar.specs.Words.{is_signed, level, loosest, negative_of, number_of, plain, res, role, tightest}
use Rattle.pp_grammar.specs.Words.{unary_of, word}
use Rattle.pp_grammar_sound.proofs.Fronts.{breaks_go_on, fields_go_on}
use Rattle.pp_grammar_sound.proofs.Modes.{IsNegative, Moved, at_after_body, at_after_dot, at_after_ensuring}
use Rattle.pp_grammar_sound.proofs.Modes.{at_after_if, at_after_int, at_after_match, at_after_minus, at_after_name}
use Rattle.pp_grammar_sound.proofs.Modes.{at_after_negative_dot, at_have, at_have_negative, at_want, at_want_stat}
use Rattle.pp_grammar_sound.proofs.Modes.{at_want_then, negative_at}
use Rattle.pp_grammar_sound.proofs.Opens.{EnsuringAt, HoleFits, Opens, Signature, SimpleText, ThenAt, dot_ensuring_at}
use Rattle.pp_grammar_sound.proofs.Opens.{ensuring_at, hole_operand, opens_body, opens_guarding, opens_if_test}
use Rattle.pp_grammar_sound.proofs.Opens.{opens_if_then, opens_left, opens_prefixing, opens_round, opens_stat, stat_arm}
use Rattle.pp_grammar_sound.proofs.Opens.{stat_assert, stat_braces, stat_head, stat_val, then_at}
use Rattle.pp_grammar_sound.proofs.SoundEnds.{keeps_unwound}
use Rattle.pp_grammar_sound.proofs.Unwound.{Held, IsLevel, Value, as_infix, at_level, le_cases, level_in, unwound}
use Rattle.pp_grammar_sound.proofs.Unwound.{value_infix, value_simple, value_simple_hole}
use Rattle.pp_tokens.specs.declared.token.Bracket.TheVariants.{Dot, OpenBrace, OpenRound}
use Rattle.pp_tokens.specs.declared.token.Operator.{Operator}
use Rattle.pp_tokens.specs.declared.token.Operator.TheVariants.{Arrow, Flip, Minus, Not}
use Rattle.pp_tokens.specs.declared.token.Reserved.TheVariants.{False, If, Match, True}
use Rattle.pp_tokens.specs.declared.token.Token.{Token}
use Rattle.pp_tokens.specs.declared.token.TokenKind.{TokenKind}
use Rattle.pp_tokens.specs.declared.token.TokenKind.TheVariants.{Hex, Hole, Mark, Name, Newline, Number, Op}
use Rattle.pp_tokens.specs.declared.token.TokenKind.TheVariants.{Word as Reserve}
use Rattle.pp_tree.specs.Plain.{Tree, TypeTree, Word, field, name}
use Rattle.pp_tree.specs.declared.operator.BinaryOp.{BinaryOp}
use Rattle.pp_tree.specs.declared.operator.UnaryOp.{UnaryOp}
use Rattle.std.proofs.Common.{Bool, List, None, Option, Some, [], ap, arith, cond, false, inl, inr, refl, true, ℕ, ℤ}
use Rattle.std.proofs.Common.{◌&&◌, ◌∙◌, ◌∷◌, ◌≡◌, ◌≤◌}

pub floor_in : (s : List Frame) → floor s ≤ 10
floor_in [] = omega arith
floor_in (prefixing a op ∷ s) = omega arith
floor_in (left a op x h ∷ s) = omega (arith, (level_in op).1)
floor_in (guarding p ∷ s) = omega arith
floor_in (claiming_hole ∷ s) = omega arith
floor_in (_ ∷ s) = omega arith

module _ (text : Word) (t : Token) (ts us : List Token) where
  -- ---- where an operand is wanted

  pub keeps_number : {s : List Frame} (n : Option ℤ) → number_of t.kind ≡ n → Opens text ts s (t ∷ us)
      → Moved text ts t us (on_number text t s n)
  keeps_number (Some z) is op = at_have false op (simple (number t is) no_field) tt
  keeps_number None is op = tt

  pub keeps_operand_name : {s : List Frame} (r : Role) → role (word text t) ≡ r → t.kind ≡ Name
      → Opens text ts s (t ∷ us)
      → Moved text ts t us (on_operand_name text t s r)
  keeps_operand_name plain is is_n op = at_after_name t op is_n is
  keeps_operand_name int_word is is_n op = at_after_int t op is_n is
  keeps_operand_name _ is is_n op = tt

  pub keeps_hole : {s : List Frame} (b : Bool) → takes_hole s ≡ b → t.kind ≡ Hole → Opens text ts s (t ∷ us)
      → Moved text ts t us (cond b (go s (have (name t.from res) true)) (refuse text t))
  keeps_hole true takes is op = at_have true op (hole_operand t is no_field) takes
  keeps_hole false takes is op = tt

  pub prefix_is_no_sign_of : (vs : List Token) (o : Operator) → t.kind ≡ Op o → is_minus (Op o) ≡ false
      → is_sign t vs ≡ false
  prefix_is_no_sign_of [] o is none = refl
  prefix_is_no_sign_of (v ∷ vs) o is none = ap (λ k. is_minus k && is_signed t.to v) is
      ∙ ap (λ b. b && is_signed t.to v) none

  pub prefix_is_no_sign : (o : Operator) → t.kind ≡ Op o → is_minus (Op o) ≡ false → is_sign t us ≡ false
  prefix_is_no_sign o is none = prefix_is_no_sign_of us o is none

  pub keeps_prefix : {s : List Frame} (o : Operator) (op : UnaryOp) (b : Bool) → ((b ≡ true)
      → floor s ≤ tightest) → t.kind ≡ Op o → unary_of o ≡ Some op
      → is_minus (Op o) ≡ false → Opens text ts s (t ∷ us)
      → Moved text ts t us (cond b (go (prefixing t.from op ∷ s) want) (refuse text t))
  keeps_prefix o op true fl is is_op none opn = at_want (opens_prefixing t o op opn is is_op (prefix_is_no_sign o
      is none) (fl refl))
  keeps_prefix o op false fl is is_op none opn = tt

  pub keeps_first_minus : {s : List Frame} (b : Bool) → ((b ≡ true) → floor s ≤ tightest) → t.kind ≡ Op Minus
      → Opens text ts s (t ∷ us)
      → Moved text ts t us (cond b (go s (after_minus t.from t.to)) (refuse text t))
  keeps_first_minus true fl is opn = at_after_minus t opn is (fl refl)
  keeps_first_minus false fl is opn = tt

  pub keeps_first_if : {s : List Frame} (b : Bool) → ((b ≡ true) → floor s ≤ 0) → t.kind ≡ Reserve If
      → Opens text ts s (t ∷ us)
      → Moved text ts t us (cond b (go s (after_if t.from)) (refuse text t))
  keeps_first_if true fl is opn = at_after_if t opn is (fl refl)
  keeps_first_if false fl is opn = tt

  pub le_of : (p l : ℕ) → (nat_le p l ≡ true) → p ≤ l
  le_of p l is = elim (le_cases p l) [ inl h ↦ h.1 | inr h ↦ absurd (cc) ]

  pub keeps_want : {s : List Frame} (k : TokenKind) → t.kind ≡ k → Opens text ts s (t ∷ us)
      → Moved text ts t us (on_want text t s k)
  keeps_want (Number n) is op = keeps_number (number_of (Number n)) (ap number_of is) op
  keeps_want (Hex n) is op = keeps_number (number_of (Hex n)) (ap number_of is) op
  keeps_want Name is op = keeps_operand_name (role (word text t)) refl is op
  keeps_want (Reserve True) is op = at_have false op (simple (true_word t is) no_field) tt
  keeps_want (Reserve False) is op = at_have false op (simple (false_word t is) no_field) tt
  keeps_want {s = s} Hole is op = keeps_hole (takes_hole s) refl is op
  keeps_want {s = s} (Op Minus) is op = keeps_first_minus (nat_le (floor s) tightest) (le_of (floor s) tightest) is op
  keeps_want {s = s} (Op Not) is op =
      keeps_prefix Not unary_op.Not (nat_le (floor s) tightest) (le_of (floor s) tightest) is refl refl op
  keeps_want {s = s} (Op Flip) is op =
      keeps_prefix Flip unary_op.Flip (nat_le (floor s) tightest) (le_of (floor s) tightest) is refl refl op
  keeps_want (Mark OpenRound) is op = at_want (opens_round t op is)
  keeps_want (Mark OpenBrace) is op = at_want_stat (stat_braces t op is no_semi)
  keeps_want {s = s} (Reserve If) is op = keeps_first_if (nat_le (floor s) 0) (le_of (floor s) 0) is op
  keeps_want _ is op = tt

  pub keeps_negative : {s : List Frame} (m : Token) (n : Option ℤ) → negative_of t.kind ≡ n → m.kind ≡ Op Minus
      → is_signed m.to t ≡ true → floor s ≤ tightest → Opens text ts s (m ∷ t ∷ us)
      → Moved text ts t us (on_negative text t s m.from n)
  keeps_negative m (Some z) is is_m sign fl op =
      at_have_negative op (negative_at m t is_m (ap (λ k. is_minus k && is_signed m.to t) is_m ∙ sign) is no_field) fl
  keeps_negative m None is is_m sign fl op = tt

  pub keeps_minus : {s : List Frame} (m : Token) → Opens text ts s (m ∷ t ∷ us) → m.kind ≡ Op Minus
      → floor s ≤ tightest → Moved text ts t us (on_minus text t s m.from m.to t.kind)
  keeps_minus {s = s} m op is fl =
      let P : Bool → Type 0 = λ b. is_signed m.to t ≡ b → Moved text ts t us (cond b (on_negative text t s m.from
      (negative_of t.kind)) (on_want text t (prefixing m.from unary_op.Neg ∷ s) t.kind)) in
      elim (is_signed m.to t) as P [
        | true ↦ λ e. keeps_negative m (negative_of t.kind) refl is e fl op
        | false ↦ λ e. keeps_want t.kind refl (opens_prefixing m Minus unary_op.Neg op is refl (ap (λ k. is_minus k
            && is_signed m.to t) is ∙ e) fl)
      ] refl

  pub keeps_if : {s : List Frame} (i : Token) (k : TokenKind) → t.kind ≡ k → Opens text ts s (i ∷ t ∷ us)
      → i.kind ≡ Reserve If → floor s ≤ 0 → Moved text ts t us (on_if text t s i.from k)
  keeps_if i (Mark OpenRound) is op is_i fl = at_want (opens_if_test i t op is_i is fl)
  keeps_if i _ is op is_i fl = tt

  pub then_goes_on : {s : List Frame} → t.kind ≡ Newline → ThenAt text ts s (t ∷ us) → ThenAt text ts s us
  then_goes_on is (then_at i o c op e1 e2 fl x e3 br) = then_at i o c op e1 e2 fl x e3 (breaks_go_on t is br)

  pub keeps_want_then : {s : List Frame} (k : TokenKind) → t.kind ≡ k → ThenAt text ts s (t ∷ us)
      → Moved text ts t us (on_want_then text t s k)
  keeps_want_then Newline is op = at_want_then (then_goes_on is op)
  keeps_want_then k is op = keeps_want k is (opens_if_then op)

  -- ---- behind an operand

  -- what `ensuring` and `holds` may follow
  pub data PostReady : List Token → Tree → Type 0 where
    ready_head : {vs : List Token} {e : Tree} → IsHead text vs (t ∷ us) [] [] e → PostReady vs e
    ready_dot : {vs : List Token} {e : Tree} (dot : Token) → IsClosed text vs (dot ∷ t ∷ us) [] [] e
        → dot.kind ≡ Mark Dot → PostReady vs e

  -- the hole makes a claim, which no postcondition follows
  abbrev pub Ready : Bool → List Token → Tree → Type 0
  Ready false vs e = PostReady vs e
  Ready true vs e = Unit {0}

  pub ensured : {vs : List Token} {h : Head} {a : TypeTree} {e : Tree} → t.kind ≡ Name
      → role (word text t) ≡ ensuring_word
      → Signature text ts vs h a → PostReady vs e → EnsuringAt text ts (body_of h a no_contracts ∷ []) t e us
  ensured is r sig (ready_head head) = ensuring_at {c = no_contracts} t sig head is r
  ensured is r sig (ready_dot dot closed is_dot) = dot_ensuring_at {c = no_contracts} dot t sig closed is_dot is r

  pub held_body : {vs : List Token} {e : Tree} → t.kind ≡ Name → role (word text t) ≡ holds_word → PostReady vs e
      → IsBody text vs us [] [] e (holding_at t)
  held_body is r (ready_head head) = holds t head is r
  held_body is r (ready_dot dot closed is_dot) = dot_holds dot t closed is_dot is r

  pub keeps_ensuring : (h : Bool) (vs : List Token) (s : List Frame) (e : Tree) → t.kind ≡ Name
      → role (word text t) ≡ ensuring_word
      → Opens text ts s vs → Ready h vs e → Moved text ts t us (on_ensuring text t s e h)
  keeps_ensuring false vs _ e is r (opens_body sig) ready = at_after_ensuring (ensured is r sig ready)
  keeps_ensuring true vs _ e is r (opens_body sig) ready = tt
  keeps_ensuring h vs _ e is r (opens_if_then (then_at i o c op e1 e2 fl x e3 br)) ready = tt
  keeps_ensuring h vs _ e is r (opens_stat (stat_braces o op e1 g)) ready = tt
  keeps_ensuring h vs _ e is r (opens_stat (stat_arm b op p g e1 gap)) ready = tt
  keeps_ensuring h vs _ e is r (opens_stat (stat_val v n q op e1 e2 e3 e4 e5 e6)) ready = tt
  keeps_ensuring h vs _ e is r (opens_stat (stat_assert b o c op e1 e2 e3 e4 e5 e6)) ready = tt
  keeps_ensuring h vs _ e is r (opens_stat (stat_head b)) ready = tt
  keeps_ensuring h vs _ e is r _ ready = tt

  pub keeps_holds : (h : Bool) (vs : List Token) (s : List Frame) (e : Tree) → t.kind ≡ Name
      → role (word text t) ≡ holds_word
      → Opens text ts s vs → Ready h vs e → Moved text ts t us (on_holds text t s e h)
  keeps_holds false vs _ e is r (opens_body sig) ready = at_after_body {c = no_contracts} sig (held_body is r ready)
  keeps_holds true vs _ e is r (opens_body sig) ready = tt
  keeps_holds h vs _ e is r (opens_if_then (then_at i o c op e1 e2 fl x e3 br)) ready = tt
  keeps_holds h vs _ e is r (opens_stat (stat_braces o op e1 g)) ready = tt
  keeps_holds h vs _ e is r (opens_stat (stat_arm b op p g e1 gap)) ready = tt
  keeps_holds h vs _ e is r (opens_stat (stat_val v n q op e1 e2 e3 e4 e5 e6)) ready = tt
  keeps_holds h vs _ e is r (opens_stat (stat_assert b o c op e1 e2 e3 e4 e5 e6)) ready = tt
  keeps_holds h vs _ e is r (opens_stat (stat_head b)) ready = tt
  keeps_holds h vs _ e is r _ ready = tt

  pub keeps_post_word : (h : Bool) (vs : List Token) (s : List Frame) (e : Tree) (r : Role) → role (word text t) ≡ r
      → t.kind ≡ Name → Opens text ts s vs → Ready h vs e → Moved text ts t us (on_post_word text t s e h r)
  keeps_post_word h vs s e ensuring_word r is op ready = keeps_ensuring h vs s e is r op ready
  keeps_post_word h vs s e holds_word r is op ready = keeps_holds h vs s e is r op ready
  keeps_post_word h vs s e _ r is op ready = tt

  pub ready_infix : (h : Bool) (vs : List Token) (e : Tree) → Value text h loosest vs (t ∷ us) e → Ready h vs e
  ready_infix false vs e v = ready_head (head_infix (as_infix text (omega arith) v))
  ready_infix true vs e v = tt

  pub keeps_post_operand : (u : Operand) → t.kind ≡ Name → Held text loosest ts u (t ∷ us)
      → Moved text ts t us (on_post_operand text t u)
  keeps_post_operand u is held =
      keeps_post_word u.holed held.from u.frames u.tree (role (word text t)) refl is held.opens (ready_infix
      u.holed held.from u.tree held.reads)

  pub keeps_guard : (s : List Frame) (e : Tree) (h : Bool) {vs : List Token} → t.kind ≡ Op Arrow → Opens text ts s vs
      → Value text h loosest vs (t ∷ us) e → Moved text ts t us (on_guard text t s e h)
  keeps_guard _ e false is (opens_guarding i op p is_i) v =
      at_want_stat (stat_arm t op p (guard i is_i (as_infix text (omega arith) v)) is no_semi)
  keeps_guard _ e true is (opens_guarding i op p is_i) v = tt
  keeps_guard _ e h is (opens_if_then (then_at i o c op e1 e2 fl x e3 br)) v = tt
  keeps_guard _ e h is (opens_stat (stat_braces o op e1 g)) v = tt
  keeps_guard _ e h is (opens_stat (stat_arm b op p g e1 gap)) v = tt
  keeps_guard _ e h is (opens_stat (stat_val w n q op e1 e2 e3 e4 e5 e6)) v = tt
  keeps_guard _ e h is (opens_stat (stat_assert b o c op e1 e2 e3 e4 e5 e6)) v = tt
  keeps_guard _ e h is (opens_stat (stat_head b)) v = tt
  keeps_guard _ e h is _ v = tt

  pub keeps_match_if : {vs : List Token} {s : List Frame} {e : Tree} (b : Bool) → ((b ≡ true) → floor s ≤ 0)
      → t.kind ≡ Reserve Match
      → Opens text ts s vs → IsInfix text loosest vs (t ∷ us) e
      → Moved text ts t us (cond b (go s (after_match t.from e)) (refuse text t))
  keeps_match_if true fl is op r = at_after_match t op (fl refl) r is
  keeps_match_if false fl is op r = tt

  pub keeps_match : (s : List Frame) (e : Tree) (h : Bool) {vs : List Token} → t.kind ≡ Reserve Match
      → Opens text ts s vs
      → Value text h loosest vs (t ∷ us) e → Moved text ts t us (on_match text t s e h)
  keeps_match s e true is op v = tt
  keeps_match s e false is op v =
      keeps_match_if (nat_le (floor s) 0) (le_of (floor s) 0) is op (as_infix text (omega arith) v)

  pub keeps_operator : (u : Operand) (o : Operator) (op : BinaryOp) → t.kind ≡ Op o → binary_of o ≡ Some op
      → Held text (level op) ts u (t ∷ us) → Moved text ts t us (on_operator text t op u)
  keeps_operator u o op is is_op held =
      let two : 2 ≤ level op = (level_in op).0 in let le : level op ≤ 9 = omega (arith, (level_in op).1) in
      at_want (opens_left u.holed t o op held.opens (held.fits two) (at_level text u.holed (level op) (level op)
      two le (omega arith) held.reads) held.hole_fits is is_op)

  pub level_is : (op : BinaryOp) → IsLevel text (level op)
  level_is op = (inr (level_in op).0, omega (arith, (level_in op).1))

  pub keeps_binary : (h : Bool) (l : ℕ) {vs : List Token} {s : List Frame} {e : Tree} (o : Operator) (x : Option
      BinaryOp)
      → t.kind ≡ Op o → binary_of o ≡ x → Opens text ts s vs → Value text h l vs (t ∷ us) e → floor s ≤ l → 9 ≤ l
      → HoleFits text h s → Moved text ts t us (on_binary text t s e h x)
  keeps_binary h l {s = s} {e = e} o (Some op) is is_op opn v fl le fits =
      let h9 = (level_in op).1 in
      keeps_operator (unwind (level op) s e h) o op is is_op (unwound text h (level op) l (level_is op) opn v fl
      (omega arith) fits)
  keeps_binary h l o None is is_op opn v fl le fits = tt

  pub keeps_operand : (h : Bool) (l : ℕ) {vs : List Token} {s : List Frame} {e : Tree} (k : TokenKind) → t.kind ≡ k
      → Opens text ts s vs → Value text h l vs (t ∷ us) e → floor s ≤ l → 9 ≤ l → HoleFits text h s
      → Moved text ts t us (on_operand text t s e h k)
  keeps_operand h l {s = s} {e = e} (Op Arrow) is op v fl le fits =
      let u = unwind loosest s e h in let held = unwound text h loosest l (inr (omega arith), omega arith) op v fl
      (omega arith) fits in
      keeps_guard u.frames u.tree u.holed is held.opens held.reads
  keeps_operand h l (Op o) is op v fl le fits = keeps_binary h l o (binary_of o) is refl op v fl le fits
  keeps_operand h l {s = s} {e = e} (Reserve Match) is op v fl le fits =
      let u = unwind loosest s e h in let held = unwound text h loosest l (inr (omega arith), omega arith) op v fl
      (omega arith) fits in
      keeps_match u.frames u.tree u.holed is held.opens held.reads
  keeps_operand h l {s = s} {e = e} Name is op v fl le fits =
      keeps_post_operand (unwind loosest s e h) is (unwound text h loosest l (inr (omega arith), omega arith) op v
      fl (omega arith) fits)
  keeps_operand h l {s = s} {e = e} k is op v fl le fits =
      keeps_unwound text t ts us (unwind 0 s e h) k is (unwound text h 0 l (inl refl, omega arith) op v fl (omega
      arith) fits)

  pub simple_value : (h : Bool) (vs ws : List Token) (e : Tree) → SimpleText text h vs ws e → Value text h 10 vs ws e
  simple_value false vs ws e r = value_simple r
  simple_value true vs ws e r = value_simple_hole r

  pub keeps_have : (h : Bool) (vs : List Token) (s : List Frame) (e : Tree) (k : TokenKind) → t.kind ≡ k
      → Opens text ts s vs → SimpleText text h vs (t ∷ us) e → HoleFits text h s
      → Moved text ts t us (on_have text t s e h k)
  keeps_have h vs s e (Mark Dot) is op r fits = at_after_dot h t op r fits is
  keeps_have h vs s e k is op r fits =
      keeps_operand h 10 k is op (simple_value h vs (t ∷ us) e r) (floor_in s) (omega arith) fits

  pub simple_field : (h : Bool) (vs : List Token) (e : Tree) (dot : Token) → SimpleText text h vs (dot ∷ t ∷ us) e
      → dot.kind ≡ Mark Dot → t.kind ≡ Name → role (word text t) ≡ plain
      → SimpleText text h vs us (field t.from e (word text t))
  simple_field false vs e dot (simple p f) is_dot is pl = simple p (fields_go_on text dot t f is_dot is pl)
  simple_field true vs e dot (hole_operand x is_x f) is_dot is pl = hole_operand x is_x (fields_go_on text dot t f
      is_dot is pl)

  pub ready_simple : (h : Bool) (vs : List Token) (e : Tree) (dot : Token) → SimpleText text h vs (dot ∷ t ∷ us) e
      → dot.kind ≡ Mark Dot → Ready h vs e
  ready_simple false vs e dot r is = ready_dot dot (closed_simple r) is
  ready_simple true vs e dot r is = tt

  pub keeps_dot_name : (h : Bool) (vs : List Token) (s : List Frame) (e : Tree) (dot : Token) (r : Role)
      → role (word text t) ≡ r → t.kind ≡ Name → Opens text ts s vs → SimpleText text h vs (dot ∷ t ∷ us) e
      → HoleFits text h s → dot.kind ≡ Mark Dot → Moved text ts t us (on_dot_name text t s e h r)
  keeps_dot_name h vs s e dot plain r is op x fits is_dot = at_have h op (simple_field h vs e dot x is_dot is r) fits
  keeps_dot_name h vs s e dot k r is op x fits is_dot =
      keeps_post_word h vs s e k r is op (ready_simple h vs e dot x is_dot)

  pub keeps_dot : (h : Bool) (vs : List Token) (s : List Frame) (e : Tree) (dot : Token) (k : TokenKind) → t.kind ≡ k
      → Opens text ts s vs → SimpleText text h vs (dot ∷ t ∷ us) e → HoleFits text h s → dot.kind ≡ Mark Dot
      → Moved text ts t us (on_dot text t s e h k)
  keeps_dot h vs s e dot Name is op x fits is_dot = keeps_dot_name h vs s e dot (role (word text t)) refl is op x
      fits is_dot
  keeps_dot h vs s e dot _ is op x fits is_dot = tt

  -- ---- numbers with a sign

  pub negative_value : {vs ws : List Token} {e : Tree} → IsNegative text vs ws e → Value text false 9 vs ws e
  negative_value (negative_at m n is_m sign is_n f) = value_infix 9 (omega arith) (operand (negative m n is_m sign
      is_n f))

  pub keeps_have_negative : {vs : List Token} {s : List Frame} {e : Tree} (k : TokenKind) → t.kind ≡ k
      → Opens text ts s vs → IsNegative text vs (t ∷ us) e → floor s ≤ tightest
      → Moved text ts t us (on_have_negative text t s e k)
  keeps_have_negative (Mark Dot) is op r fl = at_after_negative_dot t op r fl is
  keeps_have_negative k is op r fl = keeps_operand false 9 k is op (negative_value r) fl (omega arith) tt

  pub negative_field : {vs : List Token} {e : Tree} (dot : Token) → IsNegative text vs (dot ∷ t ∷ us) e
      → dot.kind ≡ Mark Dot → t.kind ≡ Name → role (word text t) ≡ plain
      → IsNegative text vs us (field t.from e (word text t))
  negative_field dot (negative_at m n is_m sign is_n f) is_dot is pl =
      negative_at m n is_m sign is_n (fields_go_on text dot t f is_dot is pl)

  pub keeps_negative_field : {vs : List Token} {s : List Frame} {e : Tree} (dot : Token) (r : Role)
      → role (word text t) ≡ r
      → t.kind ≡ Name → Opens text ts s vs → IsNegative text vs (dot ∷ t ∷ us) e → floor s ≤ tightest
      → dot.kind ≡ Mark Dot → Moved text ts t us (on_negative_field text t s e r)
  keeps_negative_field dot plain r is op x fl is_dot = at_have_negative op (negative_field dot x is_dot is r) fl
  keeps_negative_field dot _ r is op x fl is_dot = tt

  pub keeps_negative_dot : {vs : List Token} {s : List Frame} {e : Tree} (dot : Token) (k : TokenKind) → t.kind ≡ k
      → Opens text ts s vs → IsNegative text vs (dot ∷ t ∷ us) e → floor s ≤ tightest → dot.kind ≡ Mark Dot
      → Moved text ts t us (on_negative_dot text t s e k)
  keeps_negative_dot dot Name is op x fl is_dot = keeps_negative_field dot (role (word text t)) refl is op x fl is_dot
  keeps_negative_dot dot _ is op x fl is_dot = tt

-- An operand joined with the operators before it is an infix expression, or an expression.
-- a test of two numbers, with what it says
use Rattle.pp_tree.specs.declared.operator.BinaryOp.TheVariants as binary_op
use Rattle.std.specs.Prelude.{nat_le}
use Rattle.std.proofs.lemmas.Bool.Decides.{nat_tests}
use Rattle.pp_grammar.specs.Bodies.{IsHole, hole, hole_on_left, hole_on_right, looser_hole, prefixed_hole}
use Rattle.pp_grammar.specs.Exprs.{IsExpr, IsInfix, IsSemicolon, IsSimple, if_else, infix_expr, looser, no_prefix}
use Rattle.pp_grammar.specs.Exprs.{operand, operator, prefixed}
use Rattle.pp_grammar.specs.Frames.{Frame, if_rest, left, prefixing}
use Rattle.pp_grammar.specs.Joining.{Operand, above, floor, unwind}
use Rattle.pp_grammar.specs.Types.{IsBreaks}
use Rattle.pp_grammar.specs.Words.{binary_of, is_sign, level, loosest, unary_of}
use Rattle.pp_grammar_sound.proofs.Opens.{HoleFits, InfixText, IsHoleOperand, Opens, hole_operand, opens_if_rest}
use Rattle.pp_grammar_sound.proofs.Opens.{opens_if_then, opens_left, opens_prefixing, opens_stat, stat_arm, stat_assert}
use Rattle.pp_grammar_sound.proofs.Opens.{stat_braces, stat_head, stat_val, then_at}
use Rattle.pp_tokens.specs.declared.token.Bracket.TheVariants.{CloseRound, OpenRound}
use Rattle.pp_tokens.specs.declared.token.Operator.{Operator}
use Rattle.pp_tokens.specs.declared.token.Reserved.TheVariants.{Else, If}
use Rattle.pp_tokens.specs.declared.token.Token.{Token}
use Rattle.pp_tokens.specs.declared.token.TokenKind.TheVariants.{Mark, Op, Word as Reserve}
use Rattle.pp_tree.specs.Plain.{Tree, Word, binary, choice, unary}
use Rattle.pp_tree.specs.declared.operator.BinaryOp.{BinaryOp}
use Rattle.pp_tree.specs.declared.operator.UnaryOp.{UnaryOp}
use Rattle.std.proofs.Common.{Bool, List, Some, arith, false, inl, inr, refl, subst, suc, sym, true, zero, ℕ, ◌+◌, ◌-◌}
use Rattle.std.proofs.Common.{◌<◌, ◌||◌, ◌∷◌, ◌≡◌, ◌≤◌, ◌⊎◌}
use Rattle.std.proofs.lemmas.Bool.Decides.{nat_tests}

pub le_cases : (p l : ℕ) → ((nat_le p l ≡ true) × (p ≤ l)) ⊎ ((nat_le p l ≡ false) × (l < p))
le_cases p l = grind (arith, nat_tests)

pub level_in : (op : BinaryOp) → (2 ≤ level op) × (level op ≤ 8)
level_in binary_op.Add = (omega arith, omega arith)
level_in binary_op.Sub = (omega arith, omega arith)
level_in binary_op.Mul = (omega arith, omega arith)
level_in binary_op.Div = (omega arith, omega arith)
level_in binary_op.Rem = (omega arith, omega arith)
level_in binary_op.Equal = (omega arith, omega arith)
level_in binary_op.Differ = (omega arith, omega arith)
level_in binary_op.Less = (omega arith, omega arith)
level_in binary_op.AtMost = (omega arith, omega arith)
level_in binary_op.More = (omega arith, omega arith)
level_in binary_op.AtLeast = (omega arith, omega arith)
level_in binary_op.AndAlso = (omega arith, omega arith)
level_in binary_op.OrElse = (omega arith, omega arith)
level_in binary_op.And = (omega arith, omega arith)
level_in binary_op.Or = (omega arith, omega arith)
level_in binary_op.Xor = (omega arith, omega arith)
level_in binary_op.Shl = (omega arith, omega arith)
level_in binary_op.Shr = (omega arith, omega arith)
level_in binary_op.Ushr = (omega arith, omega arith)

module _ (text : Word) where
  -- a tighter expression can stand where a looser one is wanted
  infix_by : (k p l : ℕ) {ts us : List Token} {e : Tree} → l ≡ k + p → IsInfix text l ts us e → IsInfix text p ts us e
  infix_by zero p l {ts} {us} {e} is r = let P : ℕ → Type 0 = λ n. IsInfix text n ts us e in subst P (omega arith) r
  infix_by (suc k) p l is r = looser (infix_by k (suc p) l (omega arith) r)

  pub infix_of : (p l : ℕ) {ts us : List Token} {e : Tree} → p ≤ l → IsInfix text l ts us e → IsInfix text p ts us e
  infix_of p l le r = infix_by (l - p) p l (omega arith) r

  hole_by : (k p l : ℕ) {ts us : List Token} {e : Tree} → l ≡ k + p → IsHole text l ts us e → IsHole text p ts us e
  hole_by zero p l {ts} {us} {e} is r = let P : ℕ → Type 0 = λ n. IsHole text n ts us e in subst P (omega arith) r
  hole_by (suc k) p l is r = looser_hole (hole_by k (suc p) l (omega arith) r)

  pub hole_of : (p l : ℕ) {ts us : List Token} {e : Tree} → p ≤ l → IsHole text l ts us e → IsHole text p ts us e
  hole_of p l le r = hole_by (l - p) p l (omega arith) r

  -- no infix expression is tighter than an operand with its prefix
  infix_level : {l : ℕ} {ts us : List Token} {e : Tree} → IsInfix text l ts us e → l ≤ 9
  infix_level (looser r) = let h = infix_level r in omega arith
  infix_level (operand r) = omega arith
  infix_level (operator t o op a is is_op b) = let h = (level_in op).1 in omega arith

  hole_level : {l : ℕ} {ts us : List Token} {e : Tree} → IsHole text l ts us e → l ≤ 9
  hole_level (looser_hole r) = let h = hole_level r in omega arith
  hole_level (hole h is f) = omega arith
  hole_level (prefixed_hole t h o op is is_op is_h f) = omega arith
  hole_level (hole_on_left t o op a is is_op b) = let h = (level_in op).1 in omega arith
  hole_level (hole_on_right t o op a is is_op b) = let h = (level_in op).1 in omega arith

  -- What an operand may be, with the hole or without, and how tight it binds: 0 for any expression.
  pub data Value : Bool → ℕ → List Token → List Token → Tree → Type 0 where
    value_expr : {ts us : List Token} {e : Tree} → IsExpr text ts us e → Value false 0 ts us e
    value_claim : {ts us : List Token} {e : Tree} → IsHole text loosest ts us e → Value true 0 ts us e
    value_infix : {ts us : List Token} {e : Tree} (l : ℕ) → 2 ≤ l → IsInfix text l ts us e → Value false l ts us e
    value_hole : {ts us : List Token} {e : Tree} (l : ℕ) → 2 ≤ l → IsHole text l ts us e → Value true l ts us e
    value_simple : {ts us : List Token} {e : Tree} → IsSimple text ts us e → Value false 10 ts us e
    value_simple_hole : {ts us : List Token} {e : Tree} → IsHoleOperand text ts us e → Value true 10 ts us e

  -- a level at which operands are wanted
  abbrev pub IsLevel : ℕ → Type 0
  IsLevel p = ((p ≡ 0) ⊎ (2 ≤ p)) × (p ≤ 9)

  simple_infix : {ts us : List Token} {e : Tree} → IsSimple text ts us e → IsInfix text 9 ts us e
  simple_infix r = operand (no_prefix r)

  simple_hole : {ts us : List Token} {e : Tree} → IsHoleOperand text ts us e → IsHole text 9 ts us e
  simple_hole (hole_operand h is f) = hole h is f

  pub at_level : (h : Bool) (p l : ℕ) {ts us : List Token} {e : Tree} → 2 ≤ p → p ≤ 9 → p ≤ l → Value h l ts us e
      → InfixText text h p ts us e
  at_level h p l two nine le (value_expr r) = absurd (omega arith)
  at_level h p l two nine le (value_claim r) = absurd (omega arith)
  at_level h p l two nine le (value_infix m is r) = infix_of p m le r
  at_level h p l two nine le (value_hole m is r) = hole_of p m le r
  at_level h p l two nine le (value_simple r) = infix_of p 9 nine (simple_infix r)
  at_level h p l two nine le (value_simple_hole r) = hole_of p 9 nine (simple_hole r)

  pub as_expr : {l : ℕ} {ts us : List Token} {e : Tree} → Value false l ts us e → IsExpr text ts us e
  as_expr (value_expr r) = r
  as_expr (value_infix l is r) = infix_expr (infix_of loosest l is r)
  as_expr (value_simple r) = infix_expr (infix_of loosest 9 (omega arith) (simple_infix r))

  pub as_claim : {l : ℕ} {ts us : List Token} {e : Tree} → Value true l ts us e → IsHole text loosest ts us e
  as_claim (value_claim r) = r
  as_claim (value_hole l is r) = hole_of loosest l is r
  as_claim (value_simple_hole r) = hole_of loosest 9 (omega arith) (simple_hole r)

  pub as_infix : {l : ℕ} {ts us : List Token} {e : Tree} → loosest ≤ l → Value false l ts us e
      → IsInfix text loosest ts us e
  as_infix {l = l} le v = at_level false loosest l (omega arith) (omega arith) le v

  pub infix_value : (h : Bool) (p : ℕ) {ts us : List Token} {e : Tree} → 2 ≤ p → InfixText text h p ts us e
      → Value h p ts us e
  infix_value false p two r = value_infix p two r
  infix_value true p two r = value_hole p two r

  zero_value : (h : Bool) (l : ℕ) {ts us : List Token} {e : Tree} → Value h l ts us e → Value h 0 ts us e
  zero_value false l v = value_expr (as_expr v)
  zero_value true l v = value_claim (as_claim v)

  loosened : (h : Bool) (p l : ℕ) {ts us : List Token} {e : Tree} → IsLevel p → p ≤ l → Value h l ts us e
      → Value h p ts us e
  loosened h p l {ts} {us} {e} (inl is, nine) le v =
      let P : ℕ → Type 0 = λ n. Value h n ts us e in subst P (sym is) (zero_value h l v)
  loosened h p l (inr two, nine) le v = infix_value h p two (at_level h p l two nine le v)

  -- the frames, and the operand above them, which binds at least as tight as level p
  pub record Held (p : ℕ) (ts : List Token) (u : Operand) (us : List Token) : Type 0 where
    pub from : List Token
    pub opens : Opens text ts u.frames from
    pub reads : Value u.holed p from us u.tree
    pub fits : 2 ≤ p → floor u.frames ≤ p
    pub hole_fits : HoleFits text u.holed u.frames

  -- an operand with a prefix
  prefixed_value : (h : Bool) (l : ℕ) {ts us : List Token} {e : Tree} (t : Token) (o : Operator) (op : UnaryOp)
      → t.kind ≡ Op o → unary_of o ≡ Some op → is_sign t ts ≡ false → 10 ≤ l → Value h l ts us e
      → Value h 9 (t ∷ ts) us (unary t.from op e)
  prefixed_value h l t o op is is_op sign le (value_expr r) = absurd (omega arith)
  prefixed_value h l t o op is is_op sign le (value_claim r) = absurd (omega arith)
  prefixed_value h l t o op is is_op sign le (value_infix m two r) = let b = infix_level r in absurd (omega arith)
  prefixed_value h l t o op is is_op sign le (value_hole m two r) = let b = hole_level r in absurd (omega arith)
  prefixed_value h l t o op is is_op sign le (value_simple r) =
      value_infix 9 (omega arith) (operand (prefixed t o op is is_op sign r))
  prefixed_value h l t o op is is_op sign le (value_simple_hole (hole_operand x is_x f)) =
      value_hole 9 (omega arith) (prefixed_hole t x o op is is_op is_x f)

  -- an operator with its sides, at most one of which has the hole
  joined_value : (g h : Bool) (l : ℕ) (s : List Frame) {ts us vs : List Token} {x e : Tree} (t : Token) (o : Operator)
      (op : BinaryOp) → t.kind ≡ Op o → binary_of o ≡ Some op → InfixText text g (level op) ts (t ∷ us) x
      → HoleFits text h (left t.from op x g ∷ s) → suc (level op) ≤ l → Value h l us vs e
      → Value (g || h) (level op) ts vs (binary t.from op x e)
  joined_value false false l s t o op is is_op x fits le v =
      value_infix (level op) (level_in op).0 (operator t o op x is is_op (at_level false (suc (level op)) l (omega
      (arith, (level_in op).0)) (omega (arith, (level_in op).1)) le v))
  joined_value false true l s t o op is is_op x fits le v =
      value_hole (level op) (level_in op).0 (hole_on_right t o op x is is_op (at_level true (suc (level op)) l
      (omega (arith, (level_in op).0)) (omega (arith, (level_in op).1)) le v))
  joined_value true false l s t o op is is_op x fits le v =
      value_hole (level op) (level_in op).0 (hole_on_left t o op x is is_op (at_level false (suc (level op)) l
      (omega (arith, (level_in op).0)) (omega (arith, (level_in op).1)) le v))
  joined_value true true l s t o op is is_op x fits le v = absurd (cc)

  -- where the joined operand stands, a hole fits if one of the two has it
  joined_fits : (g h : Bool) (s : List Frame) (x : Tree) (at : ℕ) (op : BinaryOp) → HoleFits text g s
      → HoleFits text h (left at op x g ∷ s) → HoleFits text (g || h) s
  joined_fits false false s x at op a b = tt
  joined_fits false true s x at op a b = b
  joined_fits true h s x at op a b = a

  prefix_fits : (h : Bool) (s : List Frame) (at : ℕ) (op : UnaryOp) → HoleFits text h (prefixing at op ∷ s)
      → HoleFits text h s
  prefix_fits false s at op b = tt
  prefix_fits true s at op b = b

  chosen_value : (h : Bool) (l : ℕ) (s : List Frame) {us vs ws xs ys zs : List Token} {x a b : Tree} (i o c e : Token)
      → i.kind ≡ Reserve If → o.kind ≡ Mark OpenRound → IsExpr text us (c ∷ vs) x → c.kind ≡ Mark CloseRound
      → IsBreaks vs ws → IsExpr text ws xs a → IsSemicolon xs (e ∷ ys) → e.kind ≡ Reserve Else
      → HoleFits text h (if_rest i.from x a ∷ s) → Value h l ys zs b
      → Value h 0 (i ∷ o ∷ us) zs (choice i.from x a b)
  chosen_value false l s i o c e e1 e2 x e3 br a sc e4 fits v =
      value_expr (if_else i o c e e1 e2 x e3 br a sc e4 (as_expr v))
  chosen_value true l s i o c e e1 e2 x e3 br a sc e4 fits v = absurd (cc)

  rest_fits : (h : Bool) (s : List Frame) (x a : Tree) (at : ℕ) → HoleFits text h (if_rest at x a ∷ s)
      → HoleFits text h s
  rest_fits false s x a at f = tt
  rest_fits true s x a at f = absurd (cc)

  stays : (h : Bool) (p l : ℕ) {ts ws us : List Token} {s : List Frame} {e : Tree} → IsLevel p → Opens text ts s ws
      → Value h l ws us e → p ≤ l → HoleFits text h s → floor s ≤ 2 → Held p ts (above s e h) us
  stays h p l at op v le fits fl =
      record { from = _; opens = op; reads = loosened h p l at le v; fits = λ two. omega arith; hole_fits = fits }

  stays_above : (h : Bool) (p l f : ℕ) {ts ws us : List Token} {s : List Frame} {e : Tree} → IsLevel p
      → Opens text ts s ws → Value h l ws us e → p ≤ l → HoleFits text h s → floor s ≡ suc f → f < p
      → Held p ts (above s e h) us
  stays_above h p l f at op v le fits is lt =
      record { from = _; opens = op; reads = loosened h p l at le v; fits = λ two. omega arith; hole_fits = fits }

  pub unwound : (h : Bool) (p l : ℕ) {ts ws us : List Token} {s : List Frame} {e : Tree} → IsLevel p
      → Opens text ts s ws
      → Value h l ws us e → floor s ≤ l → p ≤ l → HoleFits text h s → Held p ts (unwind p s e h) us
  unwound h p l at (opens_prefixing {s = s} t o op opened is is_op sign fl) v f le fits =
      elim (le_cases p 9) [
        | inl b ↦ rw b.0 (unwound h p 9 at opened (prefixed_value h l t o op is is_op sign f v) fl b.1 (prefix_fits
            h s t.from op fits))
        | inr b ↦ absurd (let nine : p ≤ 9 = at.1 in omega arith)
      ]
  unwound h p l at (opens_left {s = s} {x = x} g t o op opened fl side side_fits is is_op) v f le fits =
      elim (le_cases p (level op)) [
        | inl b ↦ rw b.0 (unwound (g || h) p (level op) at opened (joined_value g h l s t o op is is_op side fits f
            v) fl b.1 (joined_fits g h s x t.from op side_fits fits))
        | inr b ↦ rw b.0 (stays_above h p l (level op) at (opens_left g t o op opened fl side side_fits is is_op) v
            le fits refl b.1)
      ]
  unwound h p l at (opens_if_rest {s = s} {x = x} {a = a} i o c e opened e1 e2 fl y e3 br z sc e4) v f le fits =
      elim (le_cases p 0) [
        | inl b ↦ rw b.0 (unwound h p 0 at opened (chosen_value h l s i o c e e1 e2 y e3 br z sc e4 fits v) fl b.1
            (rest_fits h s x a i.from fits))
        | inr b ↦ rw b.0 (stays h p l at (opens_if_rest i o c e opened e1 e2 fl y e3 br z sc e4) v le fits (omega
            arith))
      ]
  unwound h p l at (opens_if_then (then_at i o c opened e1 e2 fl x e3 br)) v f le fits =
      stays h p l at (opens_if_then (then_at i o c opened e1 e2 fl x e3 br)) v le fits (omega arith)
  unwound h p l at (opens_stat (stat_braces o opened is g)) v f le fits =
      stays h p l at (opens_stat (stat_braces o opened is g)) v le fits (omega arith)
  unwound h p l at (opens_stat (stat_arm a opened q g is gap)) v f le fits =
      stays h p l at (opens_stat (stat_arm a opened q g is gap)) v le fits (omega arith)
  unwound h p l at (opens_stat (stat_val w n q opened e1 e2 a e3 x sm)) v f le fits =
      stays h p l at (opens_stat (stat_val w n q opened e1 e2 a e3 x sm)) v le fits (omega arith)
  unwound h p l at (opens_stat (stat_assert a o c opened e1 e2 e3 x e4 sm)) v f le fits =
      stays h p l at (opens_stat (stat_assert a o c opened e1 e2 e3 x e4 sm)) v le fits (omega arith)
  unwound h p l at (opens_stat (stat_head b)) v f le fits = stays h p l at (opens_stat (stat_head b)) v le fits
      (omega arith)
  unwound h p l at opened v f le fits = stays h p l at opened v le fits (omega arith)

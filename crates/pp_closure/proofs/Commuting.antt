-- Operators that make the same of operands that are turned round.
use Rattle.std.proofs.Common.{◌≡◌, Bool, true, false, None, refl, sym, ap, ◌∙◌, arith}
use Rattle.std.specs.Prelude.{not}
use Rattle.std.specs.Int.{w32, int_wrap, cast_signed, cast_unsigned}
use Rattle.std.proofs.Math.Bool.{and_comm as bools_and, or_comm as bools_or}
use Rattle.std.proofs.Math.IntN.{*ℤ_comm}
use Rattle.std.proofs.lemmas.Bool.{false≢true}
use Rattle.std.proofs.lemmas.Int.{ints}
use Rattle.std.proofs.lemmas.Nat.{and_comm, or_comm, xor_comm}
use Rattle.pp_tree.specs.declared.operator.BinaryOp.{BinaryOp}
use Rattle.pp_tree.specs.declared.operator.BinaryOp.TheVariants.{Add, Mul, Equal, Differ, And, Or, Xor}
use Rattle.pp_word.specs.Bits.{differ}
use Rattle.pp_word.specs.Word.{word_add, word_mul, word_and, word_or, word_xor}
use Rattle.pp_prog.specs.declared.value.Value.{Value}
use Rattle.pp_prog.specs.declared.value.Value.TheOpen as layer
use Rattle.pp_prog.specs.declared.value.Value.TheVariants.{Int, Bool as Truth}
use Rattle.pp_prog.specs.declared.value.Value.TheViews.{out-Value}
use Rattle.pp_eval.specs.Equality.{equal}
use Rattle.pp_eval.specs.Operators.{on_layers, on_numbers, on_truths}
use Rattle.pp_eval.proofs.Trees.{equal_same, same_equal}
use Rattle.pp_steps.specs.Meaning.{value_or}
use Rattle.pp_closure.specs.Steps.{commutes, made_of_two}
use lib.IntN.{ℤ, ◌+ℤ◌}

-- ---- words

add_turns : (a b : ℤ) → word_add w32 a b ≡ word_add w32 b a
unfolding word_add
add_turns a b = ap (int_wrap w32) {x = a +ℤ b} {y = b +ℤ a} (omega (arith, ints))

mul_turns : (a b : ℤ) → word_mul w32 a b ≡ word_mul w32 b a
unfolding word_mul
mul_turns a b = ap (int_wrap w32) (*ℤ_comm a b)

and_turns : (a b : ℤ) → word_and w32 a b ≡ word_and w32 b a
unfolding word_and
and_turns a b = ap (cast_signed w32) (and_comm (cast_unsigned w32 a) (cast_unsigned w32 b))

or_turns : (a b : ℤ) → word_or w32 a b ≡ word_or w32 b a
unfolding word_or
or_turns a b = ap (cast_signed w32) (or_comm (cast_unsigned w32 a) (cast_unsigned w32 b))

xor_turns : (a b : ℤ) → word_xor w32 a b ≡ word_xor w32 b a
unfolding word_xor
xor_turns a b = ap (cast_signed w32) (xor_comm (cast_unsigned w32 a) (cast_unsigned w32 b))

differ_turns : (a b : Bool) → differ a b ≡ differ b a
differ_turns true true = refl
differ_turns true false = refl
differ_turns false true = refl
differ_turns false false = refl

-- ---- values

-- the operator makes the same of two that are turned round
abbrev Turns : BinaryOp → Type 0
Turns op = (x y : Value) → made_of_two op x y ≡ made_of_two op y x

module _ (op : BinaryOp) where
  abbrev Numbers : Type 0
  Numbers =
      (a b : ℤ) → value_or (Truth false) (on_numbers op None a b) ≡ value_or (Truth false) (on_numbers op None b a)

  abbrev Truths : Type 0
  Truths =
      (a b : Bool) → value_or (Truth false) (on_truths op a b) ≡ value_or (Truth false) (on_truths op b a)

  layers_turn : Numbers → Truths → (o q : layer.Value-F Value)
      → value_or (Truth false) (on_layers op None o q) ≡ value_or (Truth false) (on_layers op None q o)
  layers_turn n t (layer.Int a) (layer.Int b) = n a b
  layers_turn n t (layer.Int a) (layer.Bool b) = refl
  layers_turn n t (layer.Int a) (layer.Tree d fields) = refl
  layers_turn n t (layer.Bool a) (layer.Int b) = refl
  layers_turn n t (layer.Bool a) (layer.Bool b) = t a b
  layers_turn n t (layer.Bool a) (layer.Tree d fields) = refl
  layers_turn n t (layer.Tree c fields) (layer.Int b) = refl
  layers_turn n t (layer.Tree c fields) (layer.Bool b) = refl
  layers_turn n t (layer.Tree c fields) (layer.Tree d more) = refl

equal_turns : (x y : Value) → equal x y ≡ equal y x
equal_turns x y = by (equal x y) (equal y x) refl refl
  where
    by : (s t : Bool) → equal x y ≡ s → equal y x ≡ t → equal x y ≡ equal y x
    by true t e f = e ∙ sym (same_equal y x (sym (equal_same x y e)))
    by false true e f = absurd (false≢true (sym e ∙ same_equal x y (sym (equal_same y x f))))
    by false false e f = e ∙ sym f

add_commutes : Turns Add
add_commutes x y =
    layers_turn Add (λ a b. ap Int (add_turns a b)) (λ a b. refl) (out-Value x) (out-Value y)

mul_commutes : Turns Mul
mul_commutes x y =
    layers_turn Mul (λ a b. ap Int (mul_turns a b)) (λ a b. refl) (out-Value x) (out-Value y)

and_commutes : Turns And
and_commutes x y =
    layers_turn And (λ a b. ap Int (and_turns a b)) (λ a b. ap Truth (bools_and a b)) (out-Value x) (out-Value y)

or_commutes : Turns Or
or_commutes x y =
    layers_turn Or (λ a b. ap Int (or_turns a b)) (λ a b. ap Truth (bools_or a b)) (out-Value x) (out-Value y)

xor_commutes : Turns Xor
xor_commutes x y =
    layers_turn Xor (λ a b. ap Int (xor_turns a b)) (λ a b. ap Truth (differ_turns a b)) (out-Value x) (out-Value y)

equal_commutes : Turns Equal
equal_commutes x y = ap Truth (equal_turns x y)

differ_commutes : Turns Differ
differ_commutes x y = ap (λ b. Truth (not b)) (equal_turns x y)

pub commuting : (op : BinaryOp) → commutes op ≡ true → Turns op
commuting Add h = add_commutes
commuting Mul h = mul_commutes
commuting Equal h = equal_commutes
commuting Differ h = differ_commutes
commuting And h = and_commutes
commuting Or h = or_commutes
commuting Xor h = xor_commutes
commuting op h = absurd (cc)

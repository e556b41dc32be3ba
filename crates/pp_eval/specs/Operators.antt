-- What the operators make of values. Words are those of `pp_word` at 32 bits: sums, differences, products and negations
-- wrap, a divisor of 0 fails the site's check, shifts use the low five bits of the right operand. Source: Scala
-- Language Specification 12.2.1 and 12.2.2, with the rules of the Java Language Specification that it takes over.
use Rattle.std.specs.Prelude.{ℤ, pos, Bool, not, ◌&&◌, ◌||◌, Option, Ok, Err}
use Rattle.std.specs.Int.{w32}
use Rattle.std.specs.Ordering.{int_eq}
use Rattle.pp_word.specs.Bits.{differ}
use Rattle.pp_word.specs.Word.{word_add, word_sub, word_mul, word_neg, word_div, word_rem, word_shl, word_shr}
use Rattle.pp_word.specs.Word.{word_ushr, word_and, word_or, word_xor, word_not, word_less, word_at_most}
use Rattle.pp_tree.specs.declared.operator.BinaryOp.{BinaryOp}
use Rattle.pp_tree.specs.declared.operator.BinaryOp.TheVariants.{Add, Sub, Mul, Div, Rem, Equal, Differ, Less, AtMost}
use Rattle.pp_tree.specs.declared.operator.BinaryOp.TheVariants.{More, AtLeast, And, Or, Xor, Shl, Shr, Ushr}
use Rattle.pp_tree.specs.declared.operator.UnaryOp.{UnaryOp}
use Rattle.pp_tree.specs.declared.operator.UnaryOp.TheVariants.{Neg, Not, Flip}
use Rattle.pp_prog.specs.declared.id.CheckId.{CheckId}
use Rattle.pp_prog.specs.declared.value.Value.{Value}
use Rattle.pp_prog.specs.declared.value.Value.TheOpen as layer
use Rattle.pp_prog.specs.declared.value.Value.TheVariants.{Int, Bool as Truth}
use Rattle.pp_prog.specs.declared.value.Value.TheViews.{out-Value}
use Rattle.pp_eval.specs.declared.outcome.Stop.TheVariants.{Stuck}
use Rattle.pp_eval.specs.Equality.{equal}
use Rattle.pp_eval.specs.Part.{Part, and_then, either, failed}

abbrev pub number_in : layer.Value-F Value → Part ℤ
number_in (layer.Int n) = Ok n
number_in (layer.Bool b) = Err Stuck
number_in (layer.Tree c fields) = Err Stuck

-- the number that a value is
abbrev pub number : Value → Part ℤ
number v = number_in (out-Value v)

abbrev pub truth_in : layer.Value-F Value → Part Bool
truth_in (layer.Int n) = Err Stuck
truth_in (layer.Bool b) = Ok b
truth_in (layer.Tree c fields) = Err Stuck

-- the truth value that a value is
abbrev pub truth : Value → Part Bool
truth v = truth_in (out-Value v)

-- an operator with one operand: prefix `-`, `!`, `~`
abbrev pub unary : UnaryOp → Value → Part Value
unary Neg v = and_then (number v) (λ n. Ok (Int (word_neg w32 n)))
unary Not v = and_then (truth v) (λ b. Ok (Truth (not b)))
unary Flip v = and_then (number v) (λ n. Ok (Int (word_not w32 n)))

-- a divisor of 0 fails the site's check
abbrev pub divided : Option CheckId → ℤ → ℤ → Part Value
divided check b n = either (int_eq b (pos 0)) (failed check) (Ok (Int n))

-- an operator on two numbers
abbrev pub on_numbers : BinaryOp → Option CheckId → ℤ → ℤ → Part Value
on_numbers Add check a b = Ok (Int (word_add w32 a b))
on_numbers Sub check a b = Ok (Int (word_sub w32 a b))
on_numbers Mul check a b = Ok (Int (word_mul w32 a b))
on_numbers Div check a b = divided check b (word_div w32 a b)
on_numbers Rem check a b = divided check b (word_rem w32 a b)
on_numbers Less check a b = Ok (Truth (word_less a b))
on_numbers AtMost check a b = Ok (Truth (word_at_most a b))
on_numbers More check a b = Ok (Truth (word_less b a))
on_numbers AtLeast check a b = Ok (Truth (word_at_most b a))
on_numbers And check a b = Ok (Int (word_and w32 a b))
on_numbers Or check a b = Ok (Int (word_or w32 a b))
on_numbers Xor check a b = Ok (Int (word_xor w32 a b))
on_numbers Shl check a b = Ok (Int (word_shl w32 a b))
on_numbers Shr check a b = Ok (Int (word_shr w32 a b))
on_numbers Ushr check a b = Ok (Int (word_ushr w32 a b))
on_numbers _ check a b = Err Stuck

-- an operator on two truth values, both of which were evaluated
abbrev pub on_truths : BinaryOp → Bool → Bool → Part Value
on_truths And a b = Ok (Truth (a && b))
on_truths Or a b = Ok (Truth (a || b))
on_truths Xor a b = Ok (Truth (differ a b))
on_truths _ a b = Err Stuck

abbrev pub on_layers : BinaryOp → Option CheckId → layer.Value-F Value → layer.Value-F Value → Part Value
on_layers op check (layer.Int a) (layer.Int b) = on_numbers op check a b
on_layers op check (layer.Int a) (layer.Bool b) = Err Stuck
on_layers op check (layer.Int a) (layer.Tree d fields) = Err Stuck
on_layers op check (layer.Bool a) (layer.Int b) = Err Stuck
on_layers op check (layer.Bool a) (layer.Bool b) = on_truths op a b
on_layers op check (layer.Bool a) (layer.Tree d fields) = Err Stuck
on_layers op check (layer.Tree c fields) y = Err Stuck

-- an operator whose two operands were evaluated. `==` is structural.
abbrev pub operated : BinaryOp → Option CheckId → Value → Value → Part Value
operated Equal check x y = Ok (Truth (equal x y))
operated Differ check x y = Ok (Truth (not (equal x y)))
operated op check x y = on_layers op check (out-Value x) (out-Value y)

-- How many gates operators on numbers of 32 bits may take: sums and orders eight for each bit, shifts sixteen,
-- operators on bits and equality two; products eight for each pair of bits, quotients sixteen. `!` turns a literal and
-- takes none; `&&` and `||` aren't on numbers. Source: own.
use Rattle.std.specs.Prelude.{ℕ}
use Rattle.pp_operators.specs.declared.class.OperatorClass.{OperatorClass}
use Rattle.pp_operators.specs.declared.class.OperatorClass.TheVariants as class
use Rattle.pp_tree.specs.declared.operator.UnaryOp.{UnaryOp}
use Rattle.pp_tree.specs.declared.operator.UnaryOp.TheVariants.{Neg, Not, Flip}

-- an operator with one operand
abbrev pub unary_gates : UnaryOp → ℕ
unary_gates Neg = 256
unary_gates Not = 0
unary_gates Flip = 64

-- an operator on two numbers
abbrev pub number_gates : OperatorClass → ℕ
number_gates class.Sum = 256
number_gates class.Product = 8192
number_gates class.Quotient = 16384
number_gates class.Equality = 64
number_gates class.Order = 256
number_gates class.Logic = 0
number_gates class.Bitwise = 64
number_gates class.Shift = 512

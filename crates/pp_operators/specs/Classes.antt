-- The class of each operator with two operands. Source: Scala Language Specification 12.2.1 for which operators there
-- are; the classes are own.
use Rattle.std.specs.Prelude.{Bool, true, false}
use Rattle.pp_operators.specs.declared.class.OperatorClass.{OperatorClass}
use Rattle.pp_operators.specs.declared.class.OperatorClass.TheVariants as class
use Rattle.pp_tree.specs.declared.operator.BinaryOp.{BinaryOp}
use Rattle.pp_tree.specs.declared.operator.BinaryOp.TheVariants.{Add, Sub, Mul, Div, Rem, Equal, Differ, Less, AtMost}
use Rattle.pp_tree.specs.declared.operator.BinaryOp.TheVariants.{More, AtLeast, AndAlso, OrElse, And, Or, Xor, Shl, Shr}
use Rattle.pp_tree.specs.declared.operator.BinaryOp.TheVariants.{Ushr}

abbrev pub class_of : BinaryOp → OperatorClass
class_of Add = class.Sum
class_of Sub = class.Sum
class_of Mul = class.Product
class_of Div = class.Quotient
class_of Rem = class.Quotient
class_of Equal = class.Equality
class_of Differ = class.Equality
class_of Less = class.Order
class_of AtMost = class.Order
class_of More = class.Order
class_of AtLeast = class.Order
class_of AndAlso = class.Logic
class_of OrElse = class.Logic
class_of And = class.Bitwise
class_of Or = class.Bitwise
class_of Xor = class.Bitwise
class_of Shl = class.Shift
class_of Shr = class.Shift
class_of Ushr = class.Shift

-- whether operators of this class fail where the right operand is 0
abbrev pub is_quotient : OperatorClass → Bool
is_quotient class.Quotient = true
is_quotient c = false

-- whether the operator is one of those: `/` and `%`
abbrev pub is_division : BinaryOp → Bool
is_division op = is_quotient (class_of op)

-- whether operators of this class compare two values of any one sort
abbrev pub class_is_equality : OperatorClass → Bool
class_is_equality class.Equality = true
class_is_equality c = false

-- whether the operator is one of those: `==` and `!=`
abbrev pub is_equality : BinaryOp → Bool
is_equality op = class_is_equality (class_of op)

-- whether operators of this class compare two numbers by their order
abbrev pub class_is_order : OperatorClass → Bool
class_is_order class.Order = true
class_is_order c = false

-- whether the operator is one of those: `<`, `<=`, `>` and `>=`
abbrev pub is_order : BinaryOp → Bool
is_order op = class_is_order (class_of op)

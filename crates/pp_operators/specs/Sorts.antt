-- Which sorts an operator with two operands takes, on the left and on the right, and which sort it gives. It is said
-- once for the sorts of every layer, which say which of theirs are numbers, when two are the same, and which one is
-- that of truth values. Source: Scala Language Specification 12.2.1 (Int and Boolean) for which operators there are;
-- that both operands of `==` have one sort is own.
use Rattle.std.specs.Prelude.{Bool, ◌&&◌, ◌||◌}
use Rattle.pp_operators.specs.Classes.{class_of}
use Rattle.pp_operators.specs.declared.class.OperatorClass.{OperatorClass}
use Rattle.pp_operators.specs.declared.class.OperatorClass.TheVariants as class
use Rattle.pp_tree.specs.declared.operator.BinaryOp.{BinaryOp}

module _ {S : Type 0} (is_number : S → Bool) (same : S → S → Bool) (truth : S) where
  -- whether operators of this class take operands of these sorts
  abbrev pub class_takes : OperatorClass → S → S → Bool
  class_takes class.Sum a b = is_number a && same a b
  class_takes class.Product a b = is_number a && same a b
  class_takes class.Quotient a b = is_number a && same a b
  class_takes class.Equality a b = same a b
  class_takes class.Order a b = is_number a && same a b
  class_takes class.Logic a b = same truth a && same truth b
  class_takes class.Bitwise a b = (is_number a || same truth a) && same a b
  class_takes class.Shift a b = is_number a && is_number b

  -- whether the operator takes operands of these sorts
  abbrev pub takes : BinaryOp → S → S → Bool
  takes op a b = class_takes (class_of op) a b

module _ {S : Type 0} (truth : S) where
  -- the sort of the result of an operator of this class, whose left operand has this sort
  abbrev pub class_gives : OperatorClass → S → S
  class_gives class.Equality a = truth
  class_gives class.Order a = truth
  class_gives class.Logic a = truth
  class_gives c a = a

  -- the sort of the operator's result, whose left operand has this sort
  abbrev pub gives : BinaryOp → S → S
  gives op a = class_gives (class_of op) a

-- What is asked of the operands of an operator, one by one. Source: own; which sorts they may have stands with typed
-- programs.
use Rattle.std.specs.Prelude.{Bool, true, false}
use Rattle.pp_generic.specs.declared.expected.Expected.{Expected}
use Rattle.pp_generic.specs.declared.expected.Expected.TheVariants as expected
use Rattle.pp_generic.specs.Expected.{exact}
use Rattle.pp_tree.specs.declared.operator.BinaryOp.{BinaryOp}
use Rattle.pp_typed.specs.Operators.{takes}
use Rattle.pp_typed.specs.declared.sort.GenericSort.{GenericSort}

-- whether the left operand may have this sort: then the operator takes two of it
abbrev pub admits : BinaryOp → GenericSort → Bool
admits op s = takes op s s

-- what is expected of the right operand, where the left has this sort: of `==` and `!=` that sort, else nothing
abbrev pub right_expected : Bool → GenericSort → Expected
right_expected true s = exact s
right_expected false s = expected.Open

-- The sorts of operands and of results. Source: Scala Language Specification 12.2.1 (Int and Boolean).
use Rattle.std.specs.Prelude.{◌≡◌, Bool, true}
use Rattle.pp_operators.specs.Sorts as sorts
use Rattle.pp_tree.specs.declared.operator.BinaryOp.{BinaryOp}
use Rattle.pp_tree.specs.declared.operator.UnaryOp.{UnaryOp}
use Rattle.pp_tree.specs.declared.operator.UnaryOp.TheVariants.{Neg, Not, Flip}
use Rattle.pp_typed.specs.Equal.{equal}
use Rattle.pp_typed.specs.declared.sort.GenericSort.{GenericSort}
use Rattle.pp_typed.specs.declared.sort.GenericSort.TheVariants as sort

-- the sort of the operand of a prefix operator, which is that of its result
abbrev pub unary_sort : UnaryOp → GenericSort
unary_sort Neg = sort.Int
unary_sort Not = sort.Bool
unary_sort Flip = sort.Int

-- whether it is a sort of numbers
abbrev pub is_number : GenericSort → Bool
is_number = equal sort.Int

-- whether the operator takes operands of these sorts
abbrev pub takes : BinaryOp → GenericSort → GenericSort → Bool
takes = sorts.takes is_number equal sort.Bool

-- the sort of the operator's result, whose left operand has this sort
abbrev pub gives : BinaryOp → GenericSort → GenericSort
gives = sorts.gives sort.Bool

-- the operator takes operands of the first two sorts, and its result has the third
abbrev pub Operates : BinaryOp → GenericSort → GenericSort → GenericSort → Type 0
Operates op a b of = (takes op a b ≡ true) × (of ≡ gives op a)

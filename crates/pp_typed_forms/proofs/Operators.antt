-- The sort that an operator gives is in range, where that of its left operand is.
use Rattle.std.proofs.Common.{ℕ, List, refl}
use Rattle.pp_operators.specs.Classes.{class_of}
use Rattle.pp_operators.specs.Sorts.{class_gives}
use Rattle.pp_operators.specs.declared.class.OperatorClass.{OperatorClass}
use Rattle.pp_operators.specs.declared.class.OperatorClass.TheVariants as class
use Rattle.pp_tree.specs.declared.operator.BinaryOp.{BinaryOp}
use Rattle.pp_typed.specs.InRange.{IsInRange, bool_in_range}
use Rattle.pp_typed.specs.Operators.{gives}
use Rattle.pp_typed.specs.declared.sort.GenericSort.{GenericSort}
use Rattle.pp_typed.specs.declared.sort.GenericSort.TheVariants as sort
use Rattle.pp_typed.specs.declared.typed.TypedRoot.{TypedRoot}

module _ (roots : List TypedRoot) (n : ℕ) where
  class_in_range : (c : OperatorClass) (s : GenericSort) → IsInRange roots n s
      → IsInRange roots n (class_gives sort.Bool c s)
  class_in_range class.Sum s h = h
  class_in_range class.Product s h = h
  class_in_range class.Quotient s h = h
  class_in_range class.Equality s h = bool_in_range refl
  class_in_range class.Order s h = bool_in_range refl
  class_in_range class.Logic s h = bool_in_range refl
  class_in_range class.Bitwise s h = h
  class_in_range class.Shift s h = h

  pub gives_in_range : (op : BinaryOp) (s : GenericSort) → IsInRange roots n s → IsInRange roots n (gives op s)
  gives_in_range op s h = class_in_range (class_of op) s h

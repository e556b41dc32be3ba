-- The gates of operators on symbols: those of a step whose operands have the symbols' heights, the left one with the
-- symbol's sort. Source: own.
use Rattle.std.specs.Prelude.{ℕ, ◌+◌, Bool, if◌then◌else◌}
use Rattle.pp_operators.specs.Classes.{is_equality}
use Rattle.pp_tree.specs.declared.operator.BinaryOp.{BinaryOp}
use Rattle.pp_prog.specs.declared.sort.Sort.{Sort}
use Rattle.pp_prog.specs.declared.sort.Sort.TheVariants as sort
use Rattle.pp_prog.specs.declared.types.TypeTable.{TypeTable}
use Rattle.pp_domain.specs.declared.symbol.Symbol.{Symbol}
use Rattle.pp_domain.specs.declared.symbol.Symbol.TheVariants as symbol
use Rattle.pp_domain.specs.Sense.{Sense}
use Rattle.pp_domain.specs.Allowance.{below_gates}
use Rattle.pp_domain.specs.AnySort.{compare_gates}
use Rattle.pp_steps.specs.Gates.{binary_gates}

module _ {D T : Type 0} (m : Sense D T) (types : TypeTable) where
  -- the sort of a symbol, which its form tells
  abbrev pub symbol_sort : D → Symbol T → Sort
  symbol_sort d (symbol.Word w) = sort.Int
  symbol_sort d (symbol.Bit l) = sort.Bool
  symbol_sort d (symbol.Tree t) = sort.Tree (m.data_of d t)

  -- an operator on two symbols
  abbrev pub operator_gates : BinaryOp → D → Symbol T → Symbol T → ℕ
  operator_gates op d left right =
      if is_equality op then compare_gates m types d left right else binary_gates types op 0 (symbol_sort d left)

  -- whether a tree goes down: a comparison, and in a domain that isn't exact an input, and a gate that joins the two
  abbrev pub tree_down_gates : D → T → T → ℕ
  tree_down_gates d new old = below_gates m types d new old + (if m.exact then 0 else 2)

  -- whether a component of a measure goes down from the old symbol to the new one
  abbrev pub goes_down_gates : D → Symbol T → Symbol T → ℕ
  goes_down_gates d (symbol.Word a) (symbol.Word b) = 1024
  goes_down_gates d (symbol.Tree t) (symbol.Tree u) = tree_down_gates d t u
  goes_down_gates d _ _ = 0

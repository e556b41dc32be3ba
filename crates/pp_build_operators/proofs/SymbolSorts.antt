-- A symbol tells its sort, and so the gates of an operator on it.
use Rattle.std.proofs.Common.{◌≡◌, Bool, false, if◌then◌else◌, List, Some, refl, ap, ◌∙◌}
use Rattle.std.specs.Prelude.{min}
use Rattle.pp_tree.specs.declared.operator.BinaryOp.{BinaryOp}
use Rattle.pp_tree.specs.declared.operator.UnaryOp.{UnaryOp}
use Rattle.pp_prog.specs.declared.sort.Sort.{Sort}
use Rattle.pp_prog.specs.declared.sort.Sort.TheVariants as sort
use Rattle.pp_prog.specs.declared.types.TypeTable.{TypeTable}
use Rattle.pp_prog.specs.ExprSorts.{unary_sort}
use Rattle.pp_gate.specs.declared.gate.Gate.{Gate}
use Rattle.pp_domain.specs.declared.symbol.Symbol.{Symbol}
use Rattle.pp_domain.specs.declared.symbol.Symbol.TheVariants as symbol
use Rattle.pp_domain.specs.Sense.{Sense}
use Rattle.pp_domain.specs.Symbols.{IsSymbol, symbol_height}
use Rattle.pp_prog.specs.Sizes.{by_sort}
use Rattle.pp_domain.specs.Allowance.{equality_gates}
use Rattle.pp_domain.specs.AnySort.{compare_gates}
use Rattle.pp_steps.specs.Gates.{binary_gates}
use Rattle.pp_steps.specs.Sorted.{operated_sort}
use Rattle.pp_operators.specs.Classes.{is_equality}
use Rattle.pp_build_operators.specs.Budget.{operator_gates, symbol_sort}

module _ {D T : Type 0} (m : Sense D T) (types : TypeTable) where
  pub symbol_sort_is : (d : D) (gs : List Gate) (s : Sort) (x : Symbol T) → IsSymbol m d gs s x
      → symbol_sort m types d x ≡ s
  symbol_sort_is d gs sort.Int (symbol.Word w) is = refl
  symbol_sort_is d gs sort.Bool (symbol.Bit l) is = refl
  symbol_sort_is d gs (sort.Tree of) (symbol.Tree t) is = ap sort.Tree is.1
  symbol_sort_is d gs sort.Int (symbol.Bit l) is = absurd is
  symbol_sort_is d gs sort.Int (symbol.Tree t) is = absurd is
  symbol_sort_is d gs sort.Bool (symbol.Word w) is = absurd is
  symbol_sort_is d gs sort.Bool (symbol.Tree t) is = absurd is
  symbol_sort_is d gs (sort.Tree of) (symbol.Word w) is = absurd is
  symbol_sort_is d gs (sort.Tree of) (symbol.Bit l) is = absurd is

  pub operand_sorted : (op : UnaryOp) (d : D) (gs : List Gate) (s u : Sort) (x : Symbol T) → IsSymbol m d gs s x
      → unary_sort op (Some s) ≡ Some u → unary_sort op (Some (symbol_sort m types d x)) ≡ Some u
  operand_sorted op d gs s u x is sorted =
      ap (λ (r : Sort). unary_sort op (Some r)) (symbol_sort_is d gs s x is) ∙ sorted

  pub operands_sorted : (op : BinaryOp) (d : D) (gs : List Gate) (s t u : Sort) (x y : Symbol T) → IsSymbol m d gs s x
      → IsSymbol m d gs t y → operated_sort op (Some s) (Some t) ≡ Some u
      → operated_sort op (Some (symbol_sort m types d x)) (Some (symbol_sort m types d y)) ≡ Some u
  operands_sorted op d gs s t u x y is other sorted =
      ap (λ (r : Sort). operated_sort op (Some r) (Some (symbol_sort m types d y))) (symbol_sort_is d gs s x is)
      ∙ ap (λ (r : Sort). operated_sort op (Some s) (Some r)) (symbol_sort_is d gs t y other) ∙ sorted

  -- an operator that is no equality
  pub plain_gates : (op : BinaryOp) (d : D) (x y : Symbol T) → is_equality op ≡ false
      → operator_gates m types op d x y ≡ binary_gates types op 0 (symbol_sort m types d x)
  plain_gates op d x y other =
      ap (λ (b : Bool). if b then compare_gates m types d x y else binary_gates types op 0 (symbol_sort m types d x))
      other

  pub compare_gates_are : (d : D) (gs : List Gate) (s : Sort) (x y : Symbol T) → IsSymbol m d gs s x
      → IsSymbol m d gs s y → compare_gates m types d x y
      ≡ by_sort 64 1 (λ of. equality_gates m types of (min (symbol_height m d x) (symbol_height m d y))) s
  compare_gates_are d gs sort.Int (symbol.Word v) (symbol.Word w) is other = refl
  compare_gates_are d gs sort.Bool (symbol.Bit k) (symbol.Bit l) is other = refl
  compare_gates_are d gs (sort.Tree of) (symbol.Tree t) (symbol.Tree u) is other =
      ap (λ e. equality_gates m types e (min (m.height d t) (m.height d u))) is.1
  compare_gates_are d gs sort.Int (symbol.Bit l) y is other = absurd is
  compare_gates_are d gs sort.Int (symbol.Tree t) y is other = absurd is
  compare_gates_are d gs sort.Bool (symbol.Word w) y is other = absurd is
  compare_gates_are d gs sort.Bool (symbol.Tree t) y is other = absurd is
  compare_gates_are d gs (sort.Tree of) (symbol.Word w) y is other = absurd is
  compare_gates_are d gs (sort.Tree of) (symbol.Bit l) y is other = absurd is
  compare_gates_are d gs sort.Int (symbol.Word w) (symbol.Bit l) is other = absurd other
  compare_gates_are d gs sort.Int (symbol.Word w) (symbol.Tree t) is other = absurd other
  compare_gates_are d gs sort.Bool (symbol.Bit l) (symbol.Word w) is other = absurd other
  compare_gates_are d gs sort.Bool (symbol.Bit l) (symbol.Tree t) is other = absurd other
  compare_gates_are d gs (sort.Tree of) (symbol.Tree t) (symbol.Word w) is other = absurd other
  compare_gates_are d gs (sort.Tree of) (symbol.Tree t) (symbol.Bit l) is other = absurd other

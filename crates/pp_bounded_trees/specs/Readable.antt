-- Symbols that can be read under an assignment. (own)
use Rattle.std.specs.Prelude.{◌≡◌, ℕ, Bool, true, List, Some, slice_get}
use Rattle.pp_prog.specs.declared.sort.Sort.{Sort}
use Rattle.pp_prog.specs.declared.types.TypeTable.{TypeTable}
use Rattle.pp_prog.specs.declared.value.Value.{Value}
use Rattle.pp_clause.specs.Literal.{lit_value}
use Rattle.pp_gate.specs.declared.gate.Gate.{Gate}
use Rattle.pp_gate.specs.Circuit.{Gives}
use Rattle.pp_domain.specs.declared.symbol.Symbol.{Symbol}
use Rattle.pp_domain.specs.Symbols.{IsSymbol}
use Rattle.pp_bounded_trees.specs.declared.arena.Alternative.{Alternative}
use Rattle.pp_bounded_trees.specs.declared.arena.Trees.{Trees}
use Rattle.pp_bounded_trees.specs.declared.arena.BoundedTree.{BoundedTree}
use Rattle.pp_bounded_trees.specs.Meaning.{BoundedFits, bounded_sense}
use Rattle.pp_bounded_trees.specs.Values.{symbol_value, values_of}

-- the symbol is of the domain and of a circuit whose gates the assignment gives their values, and it has a value
pub record IsReadable (types : TypeTable) (d : Trees) (a : ℕ → Bool) (x : Symbol BoundedTree) : Type 0 where
  pub gates : List Gate
  pub fits : BoundedFits types d gates
  pub gives : Gives a gates
  pub sort : Sort
  pub of : IsSymbol bounded_sense d gates sort x
  pub value : Value
  pub stands : symbol_value a (values_of a d.nodes) x ≡ Some value

-- the literal of one of these is true
pub record HasTrue (a : ℕ → Bool) (xs : List Alternative) : Type 0 where
  pub place : ℕ
  pub own : Alternative
  pub at : slice_get xs place ≡ Some own
  pub is : lit_value a own.lit ≡ true

-- the literal at the place is true
pub record IsFirstTrue (a : ℕ → Bool) (xs : List Alternative) (p : ℕ) : Type 0 where
  pub own : Alternative
  pub at : slice_get xs p ≡ Some own
  pub is : lit_value a own.lit ≡ true

-- The symbols that the calls of a line gave, over named trees, and the room of a call. Source: own.
use Rattle.std.specs.Prelude.{◌≡◌, ℕ, ◌^◌, ◌≤◌, List, length, Some, slice_get}
use Rattle.pp_prog.specs.declared.sort.Sort.{Sort}
use Rattle.pp_prog.specs.declared.sort.Sort.TheVariants as sort
use Rattle.pp_prog.specs.declared.types.TypeTable.{TypeTable}
use Rattle.pp_gate.specs.declared.gate.Gate.{Gate}
use Rattle.pp_domain.specs.declared.symbol.Symbol.{Symbol}
use Rattle.pp_domain.specs.declared.symbol.Symbol.TheVariants as symbol
use Rattle.pp_domain.specs.Symbols.{IsSymbol}
use Rattle.pp_named_trees.specs.declared.arena.NamedTree.{NamedTree}
use Rattle.pp_named_trees.specs.declared.arena.NamedTrees.{NamedTrees}
use Rattle.pp_named_trees.specs.Meaning.{NamedFits, named_sense}

-- the symbol is of the domain and the circuit
pub record IsHeld (d : NamedTrees) (gs : List Gate) (x : Symbol NamedTree) : Type 0 where
  pub sort : Sort
  pub is : IsSymbol named_sense d gs sort x

-- the domain fits the circuit, and all symbols are of them
pub record AreHeld (types : TypeTable) (d : NamedTrees) (gs : List Gate) (xs : List (Symbol NamedTree)) : Type 0 where
  pub fits : NamedFits types d gs
  pub each : (k : ℕ) (x : Symbol NamedTree) → slice_get xs k ≡ Some x → IsHeld d gs x

-- there is room for each call: few gates, and few trees were looked at
pub record HasRoom (d : NamedTrees) (gs : List Gate) : Type 0 where
  pub gates : length gs ≤ 2 ^ 29
  pub looks : length d.expansions ≤ 1000

-- the symbol is one of these
pub record IsRegister (xs : List (Symbol NamedTree)) (x : Symbol NamedTree) : Type 0 where
  pub place : ℕ
  pub at : slice_get xs place ≡ Some x

-- a word may be a number, a literal a truth value, and a tree one of its datatype
abbrev pub MayBe : Sort → Symbol NamedTree → Type 0
MayBe sort.Int (symbol.Word w) = Unit {0}
MayBe sort.Bool (symbol.Bit l) = Unit {0}
MayBe (sort.Tree of) (symbol.Tree t) = t.of.0 ≡ of.0
MayBe _ _ = ⊥

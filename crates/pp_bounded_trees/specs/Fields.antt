-- Fields of a tree, and symbols in their place. (own)
use Rattle.std.specs.Prelude.{◌≡◌, ℕ, ◌<◌, Bool, true, false, List, [], ◌∷◌, length, Option, Some, None, slice_get}
use Rattle.pp_prog.specs.declared.sort.Sort.{Sort}
use Rattle.pp_prog.specs.Sizes.{height_at}
use Rattle.pp_gate.specs.declared.gate.Gate.{Gate}
use Rattle.pp_domain.specs.declared.symbol.Symbol.{Symbol}
use Rattle.pp_domain.specs.declared.symbol.Symbol.TheVariants as symbol
use Rattle.pp_domain.specs.Symbols.{IsSymbol, symbol_height}
use Rattle.pp_bounded_trees.specs.declared.arena.Alternative.{Alternative}
use Rattle.pp_bounded_trees.specs.declared.arena.Trees.{Trees}
use Rattle.pp_bounded_trees.specs.declared.arena.BoundedTree.{BoundedTree}
use Rattle.pp_bounded_trees.specs.declared.arena.Node.{Node}
use Rattle.pp_bounded_trees.specs.Meaning.{bounded_sense}

-- the symbol, as one of this height where it is a tree
abbrev pub lowered : ℕ → Symbol BoundedTree → Symbol BoundedTree
lowered h (symbol.Word w) = symbol.Word w
lowered h (symbol.Bit l) = symbol.Bit l
lowered h (symbol.Tree t) = symbol.Tree (record t { height = h })

-- a symbol of this sort, with the height that it has below trees of this one
pub record IsBlank (d : Trees) (gs : List Gate) (h : ℕ) (s : Sort) (r : Symbol BoundedTree) : Type 0 where
  pub of : IsSymbol bounded_sense d gs s r
  pub height : symbol_height bounded_sense d r ≡ height_at h s

-- a tree names a node of the arena
abbrev pub IsInArena : List Node → Symbol BoundedTree → Type 0
IsInArena nodes (symbol.Word w) = Unit {0}
IsInArena nodes (symbol.Bit l) = Unit {0}
IsInArena nodes (symbol.Tree t) = t.number < length nodes

abbrev pub is_nil : List Alternative → Bool
is_nil [] = true
is_nil (y ∷ ys) = false

abbrev pub alternatives_of : Option Node → List Alternative
alternatives_of None = []
alternatives_of (Some x) = x.alternatives

-- the symbol is a tree whose node has no constructor
abbrev pub has_none : List Node → Symbol BoundedTree → Bool
has_none nodes (symbol.Word w) = false
has_none nodes (symbol.Bit l) = false
has_none nodes (symbol.Tree t) = is_nil (alternatives_of (slice_get nodes t.number))

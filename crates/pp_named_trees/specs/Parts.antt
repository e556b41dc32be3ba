-- Symbols of literals of a circuit, whether or not their trees are kept, and symbols at another height. (own)
use Rattle.std.specs.Prelude.{◌≡◌, ℕ, List, [], ◌∷◌}
use Rattle.pp_prog.specs.declared.sort.Sort.{Sort}
use Rattle.pp_prog.specs.declared.sort.Sort.TheVariants as sort
use Rattle.pp_gate.specs.declared.gate.Gate.{Gate}
use Rattle.pp_gate.specs.Circuit.{IsOf}
use Rattle.pp_domain.specs.declared.symbol.Symbol.{Symbol}
use Rattle.pp_domain.specs.declared.symbol.Symbol.TheVariants as symbol
use Rattle.pp_named_trees.specs.declared.arena.NamedTree.{NamedTree}
use Rattle.pp_named_trees.specs.Arena.{IsName}

module _ (gs : List Gate) where
  -- the symbol is of the circuit, and of this sort
  abbrev pub PartFits : Sort → Symbol NamedTree → Type 0
  PartFits sort.Int (symbol.Word w) = IsName gs w
  PartFits sort.Bool (symbol.Bit l) = IsOf gs l
  PartFits (sort.Tree of) (symbol.Tree t) = IsName gs t.name × (t.of ≡ of)
  PartFits _ _ = ⊥

  -- so is each symbol of the list, of the sort at its place
  abbrev pub PartsFit : List Sort → List (Symbol NamedTree) → Type 0
  PartsFit [] [] = Unit {0}
  PartsFit (s ∷ ss) (x ∷ xs) = PartFits s x × PartsFit ss xs
  PartsFit _ _ = ⊥

-- the symbol with this height, if it is a tree
abbrev pub lowered : ℕ → Symbol NamedTree → Symbol NamedTree
lowered h (symbol.Word w) = symbol.Word w
lowered h (symbol.Bit l) = symbol.Bit l
lowered h (symbol.Tree t) = symbol.Tree (record t { height = h })

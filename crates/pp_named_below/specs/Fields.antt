-- The fields of a tree that was looked at, as far as they are trees. (own)
use Rattle.std.specs.Prelude.{◌≡◌, ℕ, List, [], ◌∷◌, ◌++◌, length, Some, slice_get}
use Rattle.pp_clause.specs.Literal.{Literal}
use Rattle.pp_domain.specs.declared.symbol.Symbol.{Symbol}
use Rattle.pp_domain.specs.declared.symbol.Symbol.TheVariants as symbol
use Rattle.pp_named_trees.specs.declared.arena.Alternative.{Alternative}
use Rattle.pp_named_trees.specs.declared.arena.Expansion.{Expansion}
use Rattle.pp_named_trees.specs.declared.arena.NamedTree.{NamedTree}
use Rattle.pp_named_trees.specs.Found.{NoneBefore}
use Rattle.pp_named_below.specs.declared.fields.TreeField.{TreeField}

-- the trees among the symbols, in order, each with this literal
abbrev pub trees_among : Literal → List (Symbol NamedTree) → List TreeField
trees_among l [] = []
trees_among l (symbol.Word w ∷ xs) = trees_among l xs
trees_among l (symbol.Bit m ∷ xs) = trees_among l xs
trees_among l (symbol.Tree t ∷ xs) = record { lit = l; tree = t } ∷ trees_among l xs

-- those among the fields of all these constructors, each with the literal of its constructor
abbrev pub fields_among : List Alternative → List TreeField
fields_among [] = []
fields_among (x ∷ xs) = trees_among x.lit x.fields ++ fields_among xs

-- these are the fields of the tree: none where it wasn't looked at, and else those of all its constructors
pub data AreTreeFields (ys : List Expansion) (t : NamedTree) (fs : List TreeField) : Type 0 where
  not_looked_at : NoneBefore ys t (length ys) → fs ≡ [] → AreTreeFields ys t fs
  looked_at : (i : ℕ) (y : Expansion) → slice_get ys i ≡ Some y → y.of.0 ≡ t.of.0 → y.name ≡ t.name
      → fs ≡ fields_among y.alternatives → AreTreeFields ys t fs

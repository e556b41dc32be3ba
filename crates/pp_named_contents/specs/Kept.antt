-- Trees of fields that are kept from now on. (own)
use Rattle.std.specs.Prelude.{◌≡◌, ℕ, ◌<◌, List, ◌++◌, Some, slice_get}
use Rattle.pp_gate.specs.declared.gate.Gate.{Gate}
use Rattle.pp_domain.specs.declared.symbol.Symbol.{Symbol}
use Rattle.pp_domain.specs.declared.symbol.Symbol.TheVariants as symbol
use Rattle.pp_named_trees.specs.declared.arena.Alternative.{Alternative}
use Rattle.pp_named_trees.specs.declared.arena.NamedTree.{NamedTree}
use Rattle.pp_named_trees.specs.declared.arena.NamedTrees.{NamedTrees}
use Rattle.pp_named_trees.specs.declared.arena.Node.{Node}
use Rattle.pp_named_trees.specs.Arena.{IsKept, IsName}

-- these trees more, and nothing else
abbrev pub with_nodes : NamedTrees → List Node → NamedTrees
with_nodes d xs = record d { nodes = d.nodes ++ xs }

-- trees with names of the circuit came in, and nothing else changed
pub record Keeps (gs : List Gate) (d e : NamedTrees) : Type 0 where
  pub added : List Node
  pub is : e ≡ with_nodes d added
  pub names : (i : ℕ) (x : Node) → slice_get added i ≡ Some x → IsName gs x.name

-- the trees among the symbols have names of the circuit
abbrev pub AreNamed : List Gate → List (Symbol NamedTree) → Type 0
AreNamed gs xs = (p : ℕ) (t : NamedTree) → slice_get xs p ≡ Some (symbol.Tree t) → IsName gs t.name

-- the trees among the first i symbols are kept
abbrev pub AreKeptTo : List Node → ℕ → List (Symbol NamedTree) → Type 0
AreKeptTo nodes i xs = (p : ℕ) (t : NamedTree) → p < i → slice_get xs p ≡ Some (symbol.Tree t) → IsKept nodes t

-- all trees among the symbols are kept
abbrev pub AreKept : List Node → List (Symbol NamedTree) → Type 0
AreKept nodes xs = (p : ℕ) (t : NamedTree) → slice_get xs p ≡ Some (symbol.Tree t) → IsKept nodes t

-- so are those of the fields of the first i constructors
abbrev pub FieldsKeptTo : List Node → ℕ → List Alternative → Type 0
FieldsKeptTo nodes i ys = (j : ℕ) (y : Alternative) → j < i → slice_get ys j ≡ Some y → AreKept nodes y.fields

-- those of all fields
abbrev pub FieldsKept : List Node → List Alternative → Type 0
FieldsKept nodes ys = (j : ℕ) (y : Alternative) → slice_get ys j ≡ Some y → AreKept nodes y.fields

abbrev pub FieldsNamed : List Gate → List Alternative → Type 0
FieldsNamed gs ys = (j : ℕ) (y : Alternative) → slice_get ys j ≡ Some y → AreNamed gs y.fields

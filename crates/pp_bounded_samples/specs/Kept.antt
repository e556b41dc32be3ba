-- What the trees of a domain keep from call to call. Source: own.
use Rattle.std.specs.Prelude.{◌≡◌, ◌<◌, ℕ, Bool, true, List, Some, length, slice_get}
use Rattle.pp_prog.specs.declared.id.CtorId.{CtorId}
use Rattle.pp_prog.specs.declared.sort.Sort.{Sort}
use Rattle.pp_prog.specs.declared.types.Ctor.{Ctor}
use Rattle.pp_prog.specs.declared.types.TypeTable.{TypeTable}
use Rattle.pp_prog.specs.declared.value.Value.{Value}
use Rattle.pp_clause.specs.Literal.{Literal, lit_value}
use Rattle.pp_gate.specs.declared.gate.Gate.{Gate}
use Rattle.pp_gate.specs.Circuit.{Gives, IsOf}
use Rattle.pp_domain.specs.Answers.{IsCtorOf}
use Rattle.pp_domain.specs.Naming.{IsOfData, Naming}
use Rattle.pp_domain.specs.Sense.{Good}
use Rattle.pp_domain.specs.Symbols.{IsSymbol}
use Rattle.pp_domain.specs.declared.symbol.Symbol.{Symbol}
use Rattle.pp_bounded_trees.specs.declared.arena.BoundedTree.{BoundedTree}
use Rattle.pp_bounded_trees.specs.declared.arena.Trees.{Trees}
use Rattle.pp_bounded_trees.specs.Arena.{TreeFits}
use Rattle.pp_bounded_trees.specs.Meaning.{BoundedFits, bounded_sense}
use Rattle.pp_bounded_trees.specs.Readable.{IsReadable}
use Rattle.pp_bounded_samples.specs.declared.pair.TreePair.{TreePair}
use Rattle.pp_bounded_samples.specs.Sample.{IsSmall}

-- the tree stands for a value of its datatype under the assignment
pub record StandsForOne (types : TypeTable) (d : Trees) (a : ℕ → Bool) (n : Naming) (t : BoundedTree) : Type 0 where
  pub value : Value
  pub stands : bounded_sense.Stands d a n t value
  pub sort : IsOfData types t.of value

-- the tree is kept, is small, and stands for a value under each good assignment
pub record Kept (types : TypeTable) (d : Trees) (gs : List Gate) (t : BoundedTree) : Type 0 where
  pub node : TreeFits d.nodes (length d.nodes) t
  pub small : IsSmall types t.of t.height
  pub stands : (n : Naming) (a : ℕ → Bool) → Good bounded_sense types d gs n a → StandsForOne types d a n t

-- the domain fits and keeps both trees, which are of one datatype and of one height
pub record KeepsPair (types : TypeTable) (d : Trees) (gs : List Gate) (p : TreePair) : Type 0 where
  pub fits : BoundedFits types d gs
  pub left : Kept types d gs p.left
  pub right : Kept types d gs p.right
  pub of : p.right.of ≡ p.left.of
  pub height : p.right.height ≡ p.left.height

-- the domain fits and has the tree, and the constructor is one of its datatype
pub record CanLook (types : TypeTable) (d : Trees) (gs : List Gate) (t : BoundedTree) (c : CtorId) : Type 0 where
  pub fits : BoundedFits types d gs
  pub tree : TreeFits d.nodes (length d.nodes) t
  pub ctor : IsCtorOf types c t.of

-- the constructor has a field at the place
abbrev pub IsPlaceIn : TypeTable → CtorId → ℕ → Type 0
IsPlaceIn types c place = (k : Ctor) → slice_get types.ctors c.0 ≡ Some k → place < length k.fields

-- the domain fits, and old trees and literals are kept
pub record Goes (types : TypeTable) (d : Trees) (gs : List Gate) (e : Trees) (hs : List Gate) : Type 0 where
  pub fits : BoundedFits types e hs
  pub kept : (t : BoundedTree) → Kept types d gs t → Kept types e hs t
  pub pairs : (p : TreePair) → KeepsPair types d gs p → KeepsPair types e hs p
  pub nodes : (t : BoundedTree) → TreeFits d.nodes (length d.nodes) t → TreeFits e.nodes (length e.nodes) t
  pub literals : (l : Literal) → IsOf gs l → IsOf hs l

-- the domain fits and keeps the tree, and the assignment gives each gate its value
pub record CanRead (types : TypeTable) (d : Trees) (gs : List Gate) (a : ℕ → Bool) (t : BoundedTree) : Type 0 where
  pub fits : BoundedFits types d gs
  pub kept : Kept types d gs t
  pub gives : Gives a gs

-- old trees and literals are kept, and what could be read still can
pub record Looked (types : TypeTable) (d : Trees) (gs : List Gate) (e : Trees) (hs : List Gate) : Type 0 where
  pub goes : Goes types d gs e hs
  pub reads : (a : ℕ → Bool) (t : BoundedTree) → CanRead types d gs a t → CanRead types e hs a t

-- the symbol can be read under the assignment, if it makes the domain's condition and this literal true
abbrev pub IsReadableWhere : TypeTable → Trees → (ℕ → Bool) → Literal → Symbol BoundedTree → Type 0
IsReadableWhere types d a l x = lit_value a d.ok ≡ true → lit_value a l ≡ true → IsReadable types d a x

-- the symbol is of the domain and the circuit
pub record IsOfSort (d : Trees) (gs : List Gate) (x : Symbol BoundedTree) : Type 0 where
  pub sort : Sort
  pub is : IsSymbol bounded_sense d gs sort x

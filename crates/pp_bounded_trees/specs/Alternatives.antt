-- Which of a node's constructors is its own. (own)
use Rattle.std.specs.Prelude.{◌≡◌, ◌≢◌, ℕ, ◌<◌, ◌≤◌, nat_eq, Bool, true, false, if◌then◌else◌, List, [], ◌∷◌, length}
use Rattle.std.specs.Prelude.{Option, Some, None, slice_get}
use Rattle.pp_prog.specs.declared.value.Value.{Value}
use Rattle.pp_prog.specs.declared.value.Value.TheVariants.{Tree}
use Rattle.pp_clause.specs.Literal.{Literal, lit_value}
use Rattle.pp_gate.specs.declared.gate.Gate.{Gate}
use Rattle.pp_gate.specs.Circuit.{Gives, IsOf}
use Rattle.pp_domain.specs.declared.symbol.Symbol.{Symbol}
use Rattle.pp_bounded_trees.specs.declared.arena.Alternative.{Alternative}
use Rattle.pp_bounded_trees.specs.declared.arena.BoundedTree.{BoundedTree}
use Rattle.pp_bounded_trees.specs.declared.arena.Node.{Node}
use Rattle.pp_bounded_trees.specs.Values.{field_values}

-- the constructor whose literal is true, and the values of its fields
pub record IsOwn (a : ℕ → Bool) (done : List (Option Value)) (xs : List Alternative) (v : Value) : Type 0 where
  pub place : ℕ
  pub own : Alternative
  pub at : slice_get xs place ≡ Some own
  pub is_true : lit_value a own.lit ≡ true
  pub fields : List Value
  pub stand : field_values a done own.fields ≡ Some fields
  pub value : v ≡ Tree own.ctor fields

-- the place of the first of these with the constructor of this number, or the end where there is none
pub record IsPlaceOf (c : ℕ) (xs : List Alternative) (p : ℕ) : Type 0 where
  pub most : p ≤ length xs
  pub before : (j : ℕ) (y : Alternative) → j < p → slice_get xs j ≡ Some y → y.ctor.0 ≢ c
  pub here : (y : Alternative) → slice_get xs p ≡ Some y → y.ctor.0 ≡ c

-- the literal of the constructor that stands at the place, and a false one where there is none
pub record IsLiteralAt (gs : List Gate) (xs : List Alternative) (p : ℕ) (l : Literal) : Type 0 where
  pub of : IsOf gs l
  pub there : (y : Alternative) → slice_get xs p ≡ Some y → l ≡ y.lit
  pub absent : length xs ≤ p → (a : ℕ → Bool) → Gives a gs → lit_value a l ≡ false

-- the first of these with the constructor of this number
abbrev pub found : ℕ → List Alternative → Option Alternative
found c [] = None
found c (x ∷ xs) = if nat_eq x.ctor.0 c then Some x else found c xs

-- its field at the place
abbrev pub field_in : ℕ → Option Alternative → Option (Symbol BoundedTree)
field_in i None = None
field_in i (Some y) = slice_get y.fields i

-- they are the constructors of the node of this number
pub record IsIn (nodes : List Node) (k : ℕ) (xs : List Alternative) : Type 0 where
  pub is : (x : Node) → slice_get nodes k ≡ Some x → xs ≡ x.alternatives

-- Symbols that stand for every value of their sorts up to a height, and for nothing else. (own)
use Rattle.std.specs.Prelude.{◌≡◌, ℕ, ◌≤◌, Bool, true, List, Some, length, slice_get}
use Rattle.pp_prog.specs.declared.id.CtorId.{CtorId}
use Rattle.pp_prog.specs.declared.sort.Sort.{Sort}
use Rattle.pp_prog.specs.declared.types.Ctor.{Ctor}
use Rattle.pp_prog.specs.declared.types.TypeTable.{TypeTable}
use Rattle.pp_prog.specs.declared.value.Value.{Value}
use Rattle.pp_prog.specs.Sizes.{height_at}
use Rattle.pp_clause.specs.Literal.{Literal}
use Rattle.pp_gate.specs.declared.gate.Gate.{Gate}
use Rattle.pp_gate.specs.Circuit.{Gives}
use Rattle.pp_gate.specs.Laws.{AgreeUpTo}
use Rattle.pp_domain.specs.declared.symbol.Symbol.{Symbol}
use Rattle.pp_domain.specs.Symbols.{AreSymbols, IsSymbol}
use Rattle.pp_bounded_trees.specs.declared.arena.Alternative.{Alternative}
use Rattle.pp_bounded_trees.specs.declared.arena.Trees.{Trees}
use Rattle.pp_bounded_trees.specs.declared.arena.BoundedTree.{BoundedTree}
use Rattle.pp_bounded_trees.specs.Arena.{height_of}
use Rattle.pp_bounded_trees.specs.Meaning.{bounded_sense}
use Rattle.pp_bounded_trees.specs.Possible.{AreValuesUpTo, IsValueUpTo, has_value, is_possible}
use Rattle.pp_bounded_trees.specs.Values.{field_values, symbol_value, values_of}

-- an assignment of the new circuit that goes on from `a`, under which the symbol has this value
pub record ChosenValue (gs hs : List Gate) (a : ℕ → Bool) (e : Trees) (x : Symbol BoundedTree) (v : Value) : Type 0
  where
    pub next : ℕ → Bool
    pub gives : Gives next hs
    pub keeps : AgreeUpTo (length gs) a next
    pub value : symbol_value next (values_of next e.nodes) x ≡ Some v

-- and under which the symbols have these values
pub record ChosenValues (gs hs : List Gate) (a : ℕ → Bool) (e : Trees) (xs : List (Symbol BoundedTree))
    (vs : List Value) : Type 0 where
  pub next : ℕ → Bool
  pub gives : Gives next hs
  pub keeps : AgreeUpTo (length gs) a next
  pub values : field_values next (values_of next e.nodes) xs ≡ Some vs

-- the symbol has a value of the sort, of at most this height
pub record HasValueUpTo (types : TypeTable) (a : ℕ → Bool) (e : Trees) (h : ℕ) (s : Sort) (x : Symbol BoundedTree)
    : Type 0 where
  pub value : Value
  pub stands : symbol_value a (values_of a e.nodes) x ≡ Some value
  pub up_to : IsValueUpTo types h s value

pub record HaveValuesUpTo (types : TypeTable) (a : ℕ → Bool) (e : Trees) (h : ℕ) (ss : List Sort)
    (xs : List (Symbol BoundedTree)) : Type 0 where
  pub values : List Value
  pub stand : field_values a (values_of a e.nodes) xs ≡ Some values
  pub up_to : AreValuesUpTo types h ss values

-- a symbol that came in with these gates: it can have any value of the sort up to the height, and has no other
pub record IsFull (types : TypeTable) (gs : List Gate) (e : Trees) (hs : List Gate) (h : ℕ) (s : Sort)
    (x : Symbol BoundedTree) : Type 0 where
  pub of : IsSymbol bounded_sense e hs s x
  pub height : height_of x ≡ height_at h s
  pub chosen : (a : ℕ → Bool) (v : Value) → Gives a gs → IsValueUpTo types h s v → ChosenValue gs hs a e x v
  pub bounded : (a : ℕ → Bool) → Gives a hs → HasValueUpTo types a e h s x

-- symbols that came in with these gates, of at most this height: they can have any such values, and have no others
pub record AreFull (types : TypeTable) (gs : List Gate) (e : Trees) (hs : List Gate) (h : ℕ) (ss : List Sort)
    (xs : List (Symbol BoundedTree)) : Type 0 where
  pub of : AreSymbols bounded_sense e hs ss xs
  pub heights : (j : ℕ) (x : Symbol BoundedTree) → slice_get xs j ≡ Some x → height_of x ≤ h
  pub chosen : (a : ℕ → Bool) (vs : List Value) → Gives a gs → AreValuesUpTo types h ss vs
      → ChosenValues gs hs a e xs vs
  pub bounded : (a : ℕ → Bool) → Gives a hs → HaveValuesUpTo types a e h ss xs

-- a constructor with such fields
pub record IsFullAlternative (types : TypeTable) (gs : List Gate) (e : Trees) (hs : List Gate) (h : ℕ)
    (y : Alternative) : Type 0 where
  pub entry : Ctor
  pub at : slice_get types.ctors y.ctor.0 ≡ Some entry
  pub fields : AreFull types gs e hs h entry.fields y.fields

-- each of the constructors is in the table, and its fields have values up to the height
abbrev pub AllPossible : TypeTable → ℕ → List CtorId → Type 0
AllPossible types h cs = (j : ℕ) (c : CtorId) → slice_get cs j ≡ Some c → (k : Ctor)
    × (slice_get types.ctors c.0 ≡ Some k) × (is_possible (has_value types h) k ≡ true)

-- constructors with these literals, and with fields that came in with these gates
pub record AreFullAlternatives (types : TypeTable) (gs : List Gate) (e : Trees) (hs : List Gate) (h : ℕ)
    (cs : List CtorId) (ls : List Literal) (ys : List Alternative) : Type 0 where
  pub len : length ys ≡ length cs
  pub each : (j : ℕ) (y : Alternative) → slice_get ys j ≡ Some y → IsFullAlternative types gs e hs h y
  pub ctors : (j : ℕ) (y : Alternative) → slice_get ys j ≡ Some y → slice_get cs j ≡ Some y.ctor
  pub lits : (j : ℕ) (y : Alternative) → slice_get ys j ≡ Some y → slice_get ls j ≡ Some y.lit

-- What a held value stands for, where a store is the list of the trees that were made in it. Source: own; trees that
-- are named by their place in a list are the arena of hash consing, without the table that shares equal ones.
use Rattle.std.specs.Prelude.{◌≡◌, ◌<◌, ℕ, List, ◌++◌, All, get_or, length, map, false}
use Rattle.pp_prog.specs.declared.value.Value.{Value}
use Rattle.pp_prog.specs.declared.value.Value.TheVariants as value
use Rattle.pp_store.specs.declared.held.Held.{Held}
use Rattle.pp_store.specs.declared.held.Held.TheVariants.{Int, Bool, Tree}

-- the trees that were made, in the order in which they were
abbrev pub Trees : Type 0
Trees = List Value

-- a number and a truth value stand for themselves, and a number of a tree for that tree, or for `false` if there is
-- none
abbrev pub value_of : List Value → Held → Value
value_of trees (Int n) = value.Int n
value_of trees (Bool b) = value.Bool b
value_of trees (Tree k) = get_or trees k (value.Bool false)

-- what each stands for
abbrev pub values_of : List Value → List Held → List Value
values_of trees helds = map (value_of trees) helds

-- if it is a tree, its number is below this one
abbrev pub IsBefore : ℕ → Held → Type 0
IsBefore n (Int m) = Unit {0}
IsBefore n (Bool b) = Unit {0}
IsBefore n (Tree k) = k < n

-- each tree among them has a number below this one
abbrev pub AreBefore : ℕ → List Held → Type 0
AreBefore n helds = All (IsBefore n) helds

-- if it is a tree, it is one of the store
abbrev pub IsHeld : List Value → Held → Type 0
IsHeld trees held = IsBefore (length trees) held

-- each tree among them is one of the store
abbrev pub AreHeld : List Value → List Held → Type 0
AreHeld trees helds = AreBefore (length trees) helds

-- it is held, and stands for the value
pub record StandsFor (trees : List Value) (h : Held) (v : Value) : Type 0 where
  pub held : IsHeld trees h
  pub value : value_of trees h ≡ v

-- the store has more trees, behind those that it had: so what was held is still held, and stands for the same value
abbrev pub Extends : List Value → List Value → Type 0
Extends old new = (more : List Value) × (new ≡ old ++ more)

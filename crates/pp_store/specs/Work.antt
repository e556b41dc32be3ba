-- What is left to do while a value leaves a store, and while one comes into it. Source: own; what is left, in reverse,
-- is a term in postfix.
use Rattle.std.specs.Prelude.{◌≡◌, ℕ, List, [], ◌∷◌, ◌++◌, map, length, reverse, take, drop}
use Rattle.pp_prog.specs.declared.id.CtorId.{CtorId}
use Rattle.pp_prog.specs.declared.value.Value.{Value}
use Rattle.pp_prog.specs.declared.value.Value.TheOpen as layer
use Rattle.pp_prog.specs.declared.value.Value.TheVariants as value
use Rattle.pp_store.specs.declared.held.Held.{Held}
use Rattle.pp_store.specs.declared.held.Held.TheVariants as held
use Rattle.pp_store.specs.declared.load.Pending.{Pending}
use Rattle.pp_store.specs.declared.load.Pending.TheVariants.{Load, Make}
use Rattle.pp_store.specs.declared.unload.Task.{Task}
use Rattle.pp_store.specs.declared.unload.Task.TheVariants.{Unload, Build}
use Rattle.pp_store.specs.Values.{AreHeld, value_of, values_of}

-- a value is put behind those that are there, or so many of the last are joined to a tree
pub data Step : Type 0 where
  Put : Value → Step
  Join : CtorId → ℕ → Step

-- the steps to a tree of this constructor and these fields: they are joined after they were put, the last one first
abbrev pub tree_steps : CtorId → List Value → List Step
tree_steps ctor fields = Join ctor (length fields) ∷ map Put fields

-- ---- out of a store

-- the tasks for a tree of this constructor and these fields: it is built after its fields were unloaded, the last first
abbrev pub tree_tasks : CtorId → List Held → List Task
tree_tasks ctor fields = Build ctor (length fields) ∷ map Unload fields

-- tasks of the tree with this number were added
pub record IsOpened (trees : List Value) (number : ℕ) (old new : List Task) : Type 0 where
  pub ctor : CtorId
  pub fields : List Held
  pub value : value_of trees (held.Tree number) ≡ value.Tree ctor (values_of trees fields)
  pub held : AreHeld trees fields
  pub grows : new ≡ old ++ tree_tasks ctor fields

-- the held value was made, or its tasks were added
abbrev pub IsUnloaded : List Value → List Task → List Task → List Value → List Value → Held → Type 0
IsUnloaded trees tasks next values made (held.Int n) = (next ≡ tasks) × (made ≡ values ++ value.Int n ∷ [])
IsUnloaded trees tasks next values made (held.Bool b) = (next ≡ tasks) × (made ≡ values ++ value.Bool b ∷ [])
IsUnloaded trees tasks next values made (held.Tree k) = IsOpened trees k tasks next × (made ≡ values)

-- ---- into a store

abbrev pub step_of : Pending → Step
step_of (Load v) = Put v.now
step_of (Make c n) = Join c n

abbrev pub steps_of : List Pending → List Step
steps_of pending = map step_of pending

-- the value of this layer is held, or the steps to it were added
abbrev pub IsLoaded : List Step → List Step → List Held → List Held → layer.Value-F Value → Type 0
IsLoaded steps next helds new (layer.Int n) = (next ≡ steps) × (new ≡ helds ++ held.Int n ∷ [])
IsLoaded steps next helds new (layer.Bool b) = (next ≡ steps) × (new ≡ helds ++ held.Bool b ∷ [])
IsLoaded steps next helds new (layer.Tree c fields) = (next ≡ steps ++ tree_steps c fields) × (new ≡ helds)

-- so many of the last are replaced by what holds their tree, in a store that may have grown
pub record IsMade (c : CtorId) (n : ℕ) (old new : List Value) (helds made : List Held) : Type 0 where
  pub held : AreHeld new made
  pub tree : reverse (values_of new made)
      ≡ value.Tree c (take n (reverse (values_of old helds))) ∷ drop n (reverse (values_of old helds))

-- Levels that come in for the datatypes of a group. (own)
use Rattle.std.specs.Prelude.{◌≡◌, ℕ, ◌+◌, Bool, List, ◌++◌, Some, slice_get}
use Rattle.pp_prog.specs.declared.id.DataId.{DataId}
use Rattle.pp_prog.specs.declared.sort.Sort.{Sort}
use Rattle.pp_prog.specs.declared.sort.Sort.TheVariants as sort
use Rattle.pp_prog.specs.declared.types.Ctor.{Ctor}
use Rattle.pp_prog.specs.declared.types.TypeTable.{TypeTable}
use Rattle.pp_prog.specs.Sizes.{by_sort, ctors_of}
use Rattle.pp_gate.specs.declared.gate.Gate.{Gate}
use Rattle.pp_domain.specs.Moves.{Moves}
use Rattle.pp_domain.specs.Naming.{Naming}
use Rattle.pp_domain.specs.Sense.{Extended, Good}
use Rattle.pp_bounded_trees.specs.Possible.{total}
use Rattle.pp_named_order.specs.Order.{OneGroup}
use Rattle.pp_named_trees.specs.declared.arena.Level.{Level}
use Rattle.pp_named_trees.specs.declared.arena.NamedTrees.{NamedTrees}
use Rattle.pp_named_trees.specs.Meaning.{named_sense}
use Rattle.pp_named_instances.specs.Condition.{HasLevel}

-- the inputs of a level for the sort of a field, of all fields of a constructor, and of a datatype with its fields
abbrev pub level_gates : Sort → ℕ
level_gates s = by_sort 0 0 (λ d. 32) s

abbrev pub ctor_level_gates : Ctor → ℕ
ctor_level_gates k = total level_gates k.fields

abbrev pub levels_gates : TypeTable → DataId → ℕ
levels_gates types d = 32 + total ctor_level_gates (ctors_of types d)

-- a word was made for the datatype's level
abbrev pub WasMade : List Level → DataId → Type 0
WasMade levels d = (i : ℕ) × (z : Level) × (slice_get levels i ≡ Some z) × (z.of ≡ d)

-- these levels more, and nothing else
abbrev pub with_levels : NamedTrees → List Level → NamedTrees
with_levels d zs = record d { levels = d.levels ++ zs }

-- levels came in and nothing else changed, and a good assignment goes on over them
pub record AddsLevels (types : TypeTable) (d : NamedTrees) (gs : List Gate) (e : NamedTrees) (hs : List Gate) (k : ℕ)
    : Type 0 where
  pub moves : Moves named_sense types d gs e hs k
  pub added : List Level
  pub is : e ≡ with_levels d added
  pub extends : (n : Naming) (a : ℕ → Bool) → Good named_sense types d gs n a → Extended named_sense types gs n a e hs

-- if the sort is a datatype of the group of d, that has a level
abbrev pub SortHasLevel : List ℕ → List Level → DataId → Sort → Type 0
SortHasLevel groups levels d sort.Int = Unit {0}
SortHasLevel groups levels d sort.Bool = Unit {0}
SortHasLevel groups levels d (sort.Tree e) = OneGroup groups d e → HasLevel groups levels e

-- so for each of the sorts
abbrev pub SortsHaveLevels : List ℕ → List Level → DataId → List Sort → Type 0
SortsHaveLevels groups levels d ss = (p : ℕ) (s : Sort) → slice_get ss p ≡ Some s → SortHasLevel groups levels d s

-- and for the fields of each of the constructors
abbrev pub CtorsHaveLevels : List ℕ → List Level → DataId → List Ctor → Type 0
CtorsHaveLevels groups levels d ks =
    (j : ℕ) (k : Ctor) → slice_get ks j ≡ Some k → SortsHaveLevels groups levels d k.fields

-- the datatype has a level, and so have those of its fields that are of its group
pub record DataHasLevels (types : TypeTable) (groups : List ℕ) (levels : List Level) (d : DataId) : Type 0 where
  pub own : HasLevel groups levels d
  pub fields : CtorsHaveLevels groups levels d (ctors_of types d)

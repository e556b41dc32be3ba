-- Which tables of datatypes and constructors agree. Source: own.
use Rattle.std.specs.Prelude.{◌≡◌, ◌<◌, ◌^◌, ℕ, ◌+◌, nat_eq, nat_le, nat_lt, Bool, true, false, ◌&&◌, List, Option}
use Rattle.std.specs.Prelude.{Some, None, length, slice_get, IsTrue}
use Rattle.std.specs.List.{list_all}
use Rattle.pp_prog.specs.declared.sort.Sort.{Sort}
use Rattle.pp_prog.specs.declared.sort.Sort.TheVariants as sort
use Rattle.pp_prog.specs.declared.types.Ctor.{Ctor}
use Rattle.pp_prog.specs.declared.types.Datatype.{Datatype}
use Rattle.pp_prog.specs.declared.value.Value.{Value}
use Rattle.pp_prog.specs.Sorts.{has_sort}

-- constructor number c is one of those of the datatype, which stand from `first` on and are `count` many
abbrev pub in_block : Datatype → ℕ → Bool
in_block t c = nat_le t.first.0 c && nat_lt c (t.first.0 + t.count)

abbrev pub in_block_of : Option Datatype → ℕ → Bool
in_block_of None c = false
in_block_of (Some t) c = in_block t c

-- the constructor names datatype d
abbrev pub is_of : ℕ → Option Ctor → Bool
is_of d None = false
is_of d (Some k) = nat_eq k.of.0 d

-- a sort is Int, Boolean, or a datatype of the table
abbrev pub is_sort : List Datatype → Sort → Bool
is_sort datatypes sort.Int = true
is_sort datatypes sort.Bool = true
is_sort datatypes (sort.Tree d) = nat_lt d.0 (length datatypes)

-- the two lists agree
pub record Agree (datatypes : List Datatype) (ctors : List Ctor) : Type 0 where
  -- a constructor stands among those of the datatype that it names
  pub stands : (c : ℕ) (k : Ctor) → slice_get ctors c ≡ Some k → IsTrue (in_block_of (slice_get datatypes k.of.0) c)
  -- a datatype has as many constructors as it counts, which name it
  pub block : (d : ℕ) (t : Datatype) → slice_get datatypes d ≡ Some t → (c : ℕ) → IsTrue (in_block t c)
      → IsTrue (is_of d (slice_get ctors c))
  -- the sort of each field is in range
  pub fields : (c : ℕ) (k : Ctor) → slice_get ctors c ≡ Some k → IsTrue (list_all (is_sort datatypes) k.fields)

-- some value has the sort
abbrev pub HasValue : List Ctor → Sort → Type 0
HasValue ctors s = (v : Value) × IsTrue (has_sort ctors v s)

-- each datatype of the table has a value
abbrev pub HaveValues : List Datatype → List Ctor → Type 0
HaveValues datatypes ctors = (d : ℕ) → d < length datatypes → HasValue ctors (sort.Tree (record { 0 = d }))

-- the two lists are a table: they are short enough for their numbers, they agree, and each datatype has a value
pub record IsTable (datatypes : List Datatype) (ctors : List Ctor) : Type 0 where
  pub few_datatypes : length datatypes < 2 ^ 32
  pub few_ctors : length ctors < 2 ^ 32
  pub agree : Agree datatypes ctors
  pub inhabited : HaveValues datatypes ctors

-- Namings: tables that give values of datatypes numbers, by which a domain that isn't exact tells them apart. (own)
use Rattle.std.specs.Prelude.{◌≡◌, ◌≢◌, ℕ, ◌<◌, ◌^◌, pos, false, List, [], ◌∷◌, All, Option, Some, None, slice_get}
use Rattle.std.specs.Prelude.{IsTrue, if◌then◌else◌}
use Rattle.pp_prog.specs.declared.id.CtorId.{CtorId}
use Rattle.pp_prog.specs.declared.id.DataId.{DataId}
use Rattle.pp_prog.specs.declared.sort.Sort.{Sort}
use Rattle.pp_prog.specs.declared.sort.Sort.TheVariants as sort
use Rattle.pp_prog.specs.declared.types.TypeTable.{TypeTable}
use Rattle.pp_prog.specs.declared.value.Value.{Value}
use Rattle.pp_prog.specs.declared.value.Value.TheVariants.{Int, Bool, Tree}
use Rattle.pp_prog.specs.Sorts.{has_sort}

-- a table from a datatype and a number to a value
abbrev pub Naming : Type 0
Naming = DataId → ℕ → Option Value

-- the value is one of the datatype
abbrev pub IsOfData : TypeTable → DataId → Value → Type 0
IsOfData types d v = IsTrue (has_sort types.ctors v (sort.Tree d))

-- numbers are below 2^32, the value at a number is one of its datatype, and in one datatype different numbers have
-- different values
pub record IsNaming (types : TypeTable) (n : Naming) : Type 0 where
  pub within : (d : DataId) (k : ℕ) (v : Value) → n d k ≡ Some v → k < 2 ^ 32
  pub sorts : (d : DataId) (k : ℕ) (v : Value) → n d k ≡ Some v → IsOfData types d v
  pub apart : (d : DataId) (j k : ℕ) (v : Value) → n d j ≡ Some v → n d k ≡ Some v → j ≡ k

-- the naming has the value at a number of the datatype
pub record HasNumber (n : Naming) (d : DataId) (v : Value) : Type 0 where
  pub number : ℕ
  pub is : n d number ≡ Some v

-- the naming names the value, if it is one of a datatype
abbrev pub Names : TypeTable → Naming → Value → Type 0
Names types n v = (d : DataId) → IsOfData types d v → HasNumber n d v

-- the naming names those fields of the value that are values of datatypes
abbrev pub NamesFields : TypeTable → Naming → Value → Type 0
NamesFields types n v = (c : CtorId) (fields : List Value) → v ≡ Tree c fields → All (Names types n) fields

-- the first value of the datatype in a list
abbrev pub first_of : TypeTable → DataId → List Value → Option Value
first_of types d [] = None
first_of types d (v ∷ vs) = if has_sort types.ctors v (sort.Tree d) then Some v else first_of types d vs

-- the naming names all values of the list that are of datatypes, and has the first of each datatype at the number 0
pub record NamesAll (types : TypeTable) (n : Naming) (vs : List Value) : Type 0 where
  pub names : All (Names types n) vs
  pub firsts : (d : DataId) (v : Value) → first_of types d vs ≡ Some v → n d 0 ≡ Some v

-- the value has this constructor
abbrev pub HasCtor : CtorId → Value → Type 0
HasCtor c v = (fields : List Value) × (v ≡ Tree c fields)

-- what a field of this sort stands for where the tree has another constructor: 0, false, or the value at the number 0
abbrev pub IsDefault : Naming → Sort → Value → Type 0
IsDefault n sort.Int u = u ≡ Int (pos 0)
IsDefault n sort.Bool u = u ≡ Bool false
IsDefault n (sort.Tree d) u = n d 0 ≡ Some u

-- u is what v has in the field of c at this place, of this sort: its own field there, if it has the constructor c, and
-- else the default of the sort
pub data IsFieldOf (n : Naming) (c : CtorId) (place : ℕ) (s : Sort) (v u : Value) : Type 0 where
  own : (fields : List Value) → v ≡ Tree c fields → slice_get fields place ≡ Some u → IsFieldOf n c place s v u
  other : (b : CtorId) (fields : List Value) → v ≡ Tree b fields → b ≢ c → IsDefault n s u → IsFieldOf n c place s v u

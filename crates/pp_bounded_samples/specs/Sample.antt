-- The table of the samples, and the trees at which each call of the domain has its room. Source: own.
use Rattle.std.specs.Prelude.{◌≡◌, ◌≤◌, ◌⊎◌, ℕ, zero, suc, false, List, [], ◌∷◌, ◌++◌}
use Rattle.pp_prog.specs.declared.id.DataId.{DataId}
use Rattle.pp_prog.specs.declared.sort.Sort.{Sort}
use Rattle.pp_prog.specs.declared.sort.Sort.TheVariants as sort
use Rattle.pp_prog.specs.declared.types.Ctor.{Ctor}
use Rattle.pp_prog.specs.declared.types.Datatype.{Datatype}
use Rattle.pp_prog.specs.declared.types.TypeTable.{TypeTable}
use Rattle.pp_prog.specs.Sizes.{bits, nodes}

abbrev pub tree_of : ℕ → Sort
tree_of d = sort.Tree (record { 0 = d })

-- a datatype of so many constructors
abbrev pub datatype_of : List ℕ → ℕ → ℕ → Datatype
datatype_of name first count = record { name = name; first = record { 0 = first }; count = count }

-- a constructor of datatype d, with fields of these sorts
abbrev pub ctor_of : List ℕ → ℕ → List Sort → Ctor
ctor_of name d fields = record { name = name; of = record { 0 = d }; fields = fields; object = false }

abbrev pub sample_datatypes : List ℕ → List Datatype
sample_datatypes n = datatype_of n 0 2 ∷ datatype_of n 2 2 ∷ datatype_of n 4 3 ∷ datatype_of n 7 4
    ∷ datatype_of n 11 2 ∷ datatype_of n 13 2 ∷ datatype_of n 15 2 ∷ datatype_of n 17 64 ∷ []

-- so many constructors without fields, of the datatype that has many
abbrev pub bare_ctors : List ℕ → ℕ → List Ctor
bare_ctors n zero = []
bare_ctors n (suc k) = ctor_of n 7 [] ∷ bare_ctors n k

-- lists of numbers, trees with a truth value at each fork, a datatype with fields of another, four constructors with
-- three recursive fields, two datatypes that hold each other, two truth values, and 64 constructors
abbrev pub sample_ctors : List ℕ → List Ctor
sample_ctors n =
    ctor_of n 0 [] ∷ ctor_of n 0 (sort.Int ∷ tree_of 0 ∷ [])
    ∷ ctor_of n 1 [] ∷ ctor_of n 1 (tree_of 1 ∷ sort.Bool ∷ tree_of 1 ∷ [])
    ∷ ctor_of n 2 [] ∷ ctor_of n 2 (sort.Bool ∷ tree_of 2 ∷ []) ∷ ctor_of n 2 (tree_of 0 ∷ tree_of 2 ∷ [])
    ∷ ctor_of n 3 [] ∷ ctor_of n 3 (sort.Bool ∷ []) ∷ ctor_of n 3 (sort.Int ∷ [])
    ∷ ctor_of n 3 (tree_of 3 ∷ tree_of 3 ∷ tree_of 3 ∷ [])
    ∷ ctor_of n 4 [] ∷ ctor_of n 4 (tree_of 5 ∷ tree_of 4 ∷ []) ∷ ctor_of n 5 [] ∷ ctor_of n 5 (tree_of 4 ∷ [])
    ∷ ctor_of n 6 [] ∷ ctor_of n 6 (sort.Bool ∷ sort.Bool ∷ [])
    ∷ (bare_ctors n 63 ++ ctor_of n 7 (sort.Int ∷ tree_of 7 ∷ []) ∷ [])

-- the table of the samples, all with one name
pub record IsSample (types : TypeTable) : Type 0 where
  pub name : List ℕ
  pub datatypes : types.datatypes ≡ sample_datatypes name
  pub ctors : types.ctors ≡ sample_ctors name

-- trees of a datatype of the samples up to the height 4, or lists up to 6
pub record IsLow (of : DataId) (h : ℕ) : Type 0 where
  pub some : 1 ≤ h
  pub low : ((of.0 ≤ 3) × (h ≤ 4)) ⊎ ((of.0 ≡ 0) × (h ≤ 6))

-- a full tree of this datatype and height has few bits and nodes
pub record IsSmall (types : TypeTable) (of : DataId) (h : ℕ) : Type 0 where
  pub bits : bits types h (sort.Tree of) ≤ 5600
  pub nodes : nodes types h (sort.Tree of) ≤ 200

-- How large the values of a sort are: how many bits and nodes hold every value up to a height, and how wide a value
-- is where its parts have names. Numbers and truth values have the height 0. Source: own.
use Rattle.std.specs.Prelude.{ℕ, zero, suc, ◌+◌, ◌≤◌, List, [], map, take, drop, sum, length, Option, Some, None}
use Rattle.std.specs.Prelude.{slice_get, IsTrue}
use Rattle.pp_list.specs.Joined.{joined}
use Rattle.pp_prog.specs.declared.id.DataId.{DataId}
use Rattle.pp_prog.specs.declared.sort.Sort.{Sort}
use Rattle.pp_prog.specs.declared.sort.Sort.TheVariants as sort
use Rattle.pp_prog.specs.declared.types.Ctor.{Ctor}
use Rattle.pp_prog.specs.declared.types.Datatype.{Datatype}
use Rattle.pp_prog.specs.declared.types.TypeTable.{TypeTable}
use Rattle.pp_prog.specs.declared.value.Value.{Value}
use Rattle.pp_prog.specs.Sorts.{has_sort}
use Rattle.pp_prog.specs.Values.{height}

abbrev pub ctors_in : List Ctor → Option Datatype → List Ctor
ctors_in ctors None = []
ctors_in ctors (Some t) = take t.count (drop t.first.0 ctors)

-- the constructors of a datatype
abbrev pub ctors_of : TypeTable → DataId → List Ctor
ctors_of types d = ctors_in types.ctors (slice_get types.datatypes d.0)

abbrev pub sorts_in_ctor : Ctor → List Sort
sorts_in_ctor c = c.fields

-- the sorts of all fields of all constructors of a datatype
abbrev pub fields_of : TypeTable → DataId → List Sort
fields_of types d = joined (map sorts_in_ctor (ctors_of types d))

-- a number for each sort: that of Int, that of Boolean, and that of each datatype
abbrev pub by_sort : ℕ → ℕ → (DataId → ℕ) → Sort → ℕ
by_sort int bool tree sort.Int = int
by_sort int bool tree sort.Bool = bool
by_sort int bool tree (sort.Tree d) = tree d

-- the bits of a block that holds every value of the sort up to a height: for a datatype one for each constructor, and
-- the bits of all fields of all constructors one less high
abbrev pub bits : TypeTable → ℕ → Sort → ℕ
bits types zero s = by_sort 32 1 (λ d. 0) s
bits types (suc h) s = by_sort 32 1 (λ d. length (ctors_of types d) + sum (map (bits types h) (fields_of types d))) s

-- the nodes of such a block
abbrev pub nodes : TypeTable → ℕ → Sort → ℕ
nodes types zero s = by_sort 0 0 (λ d. 0) s
nodes types (suc h) s = by_sort 0 0 (λ d. 1 + sum (map (nodes types h) (fields_of types d))) s

-- the bits of a number, a truth value, or the name of a tree
abbrev pub width : Sort → ℕ
width s = by_sort 32 1 (λ d. 32) s

-- the bits of a node whose fields have names: one for each constructor, and the widths of all fields
abbrev pub flat : TypeTable → DataId → ℕ
flat types d = length (ctors_of types d) + sum (map width (fields_of types d))

-- the height of a value of the sort where trees have the height h
abbrev pub height_at : ℕ → Sort → ℕ
height_at h s = by_sort 0 0 (λ d. h) s

-- each value of the sort has at most the height h
abbrev pub IsUpTo : List Ctor → Sort → ℕ → Type 0
IsUpTo ctors s h = (v : Value) → IsTrue (has_sort ctors v s) → height v ≤ h

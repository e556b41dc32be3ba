-- Which values have which sort. Source: Scala Language Specification 12.2.1 for the range of `Int`; the rest is own.
use Rattle.std.specs.Prelude.{◌^◌, ℤ, pos, neg_ℤ, int_le, int_lt, nat_eq, Bool, true, false, ◌&&◌, List, [], ◌∷◌}
use Rattle.std.specs.Prelude.{Option, Some, None, map, slice_get}
use Rattle.pp_prog.specs.declared.expr.Param.{Param}
use Rattle.pp_prog.specs.declared.sort.Sort.{Sort}
use Rattle.pp_prog.specs.declared.sort.Sort.TheVariants as sort
use Rattle.pp_prog.specs.declared.types.Ctor.{Ctor}
use Rattle.pp_prog.specs.declared.value.Value.{Value}
use Rattle.pp_prog.specs.declared.value.Value.TheOpen as value
use Rattle.pp_prog.specs.declared.value.Value.TheFolds.{fold-Value}

-- an Int is a number from -2^31 to 2^31 - 1
abbrev pub is_int : ℤ → Bool
is_int n = int_le (neg_ℤ (pos (2 ^ 31))) n && int_lt n (pos (2 ^ 31))

abbrev pub same_sort : Sort → Sort → Bool
same_sort sort.Int sort.Int = true
same_sort sort.Int sort.Bool = false
same_sort sort.Int (sort.Tree d) = false
same_sort sort.Bool sort.Int = false
same_sort sort.Bool sort.Bool = true
same_sort sort.Bool (sort.Tree d) = false
same_sort (sort.Tree d) sort.Int = false
same_sort (sort.Tree d) sort.Bool = false
same_sort (sort.Tree d) (sort.Tree e) = nat_eq d.0 e.0

-- each field passes the test of its sort, and none is left over
abbrev pub fields_have : List (Sort → Bool) → List Sort → Bool
fields_have [] [] = true
fields_have [] (s ∷ ss) = false
fields_have (has ∷ rest) [] = false
fields_have (has ∷ rest) (s ∷ ss) = has s && fields_have rest ss

-- a tree has the sort of its constructor's datatype, where its fields have theirs
abbrev pub tree_has : Option Ctor → List (Sort → Bool) → Sort → Bool
tree_has None fields s = false
tree_has (Some c) fields s = same_sort (sort.Tree c.of) s && fields_have fields c.fields

module _ (ctors : List Ctor) where
  -- one level, with the tests of the fields in their place
  abbrev pub has_step : value.Value-F (Sort → Bool) → Sort → Bool
  has_step (value.Int n) s = same_sort sort.Int s && is_int n
  has_step (value.Bool b) s = same_sort sort.Bool s
  has_step (value.Tree c fields) s = tree_has (slice_get ctors c.0) fields s

  -- whether the value has the sort
  abbrev pub has_sort : Value → Sort → Bool
  has_sort = fold-Value (Sort → Bool) has_step

  -- whether each value has the sort at its place, and none is left over
  abbrev pub have_sorts : List Value → List Sort → Bool
  have_sorts values sorts = fields_have (map has_sort values) sorts

abbrev pub sort_of_param : Param → Sort
sort_of_param p = p.sort

-- the sorts of the parameters
abbrev pub param_sorts : List Param → List Sort
param_sorts = map sort_of_param

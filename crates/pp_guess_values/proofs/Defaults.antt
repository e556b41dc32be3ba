-- A default for each sort: 0, false, or some value of the datatype. It stands for the fields that a value lacks.
use Rattle.std.specs.Prelude.{pos}
use Rattle.std.proofs.Common.{◌≡◌, ℕ, nat_lt, Bool, true, false, Option, Some, None, length, slice_get, refl, ap}
use Rattle.std.proofs.Common.{◌∙◌}
use Rattle.std.proofs.lemmas.Bool.{ltb-true}
use Rattle.pp_prog.specs.declared.id.CtorId.{CtorId}
use Rattle.pp_prog.specs.declared.id.DataId.{DataId}
use Rattle.pp_prog.specs.declared.sort.Sort.{Sort}
use Rattle.pp_prog.specs.declared.sort.Sort.TheVariants as sort
use Rattle.pp_prog.specs.declared.types.Ctor.{Ctor}
use Rattle.pp_prog.specs.declared.types.TypeTable.{TypeTable}
use Rattle.pp_prog.specs.declared.value.Value.{Value}
use Rattle.pp_prog.specs.declared.value.Value.TheVariants.{Int, Bool as Truth}
use Rattle.pp_prog.specs.Table.{HaveValues, is_sort}
use Rattle.pp_prog.proofs.ValueSorts.{Has, int_has, truth_has}
use Rattle.pp_guess_values.proofs.OwnFields.{sort_is_unique}

module _ (types : TypeTable) (values : HaveValues types.datatypes types.ctors) where
  abbrev default_if : (d : DataId) (b : Bool) → nat_lt d.0 (length types.datatypes) ≡ b → Value
  default_if d true e = (values d.0 (ltb-true d.0 (length types.datatypes) e)).0
  default_if d false e = Truth false

  -- 0, false, or a value of the datatype
  abbrev pub default_of : Sort → Value
  default_of sort.Int = Int (pos 0)
  default_of sort.Bool = Truth false
  default_of (sort.Tree d) = default_if d (nat_lt d.0 (length types.datatypes)) refl

  pub default_has_sort : (s : Sort) → is_sort types.datatypes s ≡ true → Has types.ctors s (default_of s)
  default_has_sort sort.Int h = int_has types.ctors (pos 0) refl
  default_has_sort sort.Bool h = truth_has types.ctors false
  default_has_sort (sort.Tree d) h = by (nat_lt d.0 (length types.datatypes)) refl h
    where
      by : (b : Bool) (e : nat_lt d.0 (length types.datatypes) ≡ b) → b ≡ true
          → Has types.ctors (sort.Tree d) (default_if d b e)
      by true e h = (values d.0 (ltb-true d.0 (length types.datatypes) e)).1
      by false e h = cc

  -- what is no sort of the table has false
  wrong_default : (s : Sort) → is_sort types.datatypes s ≡ false → Has types.ctors sort.Bool (default_of s)
  wrong_default sort.Int h = cc
  wrong_default sort.Bool h = truth_has types.ctors false
  wrong_default (sort.Tree d) h = by (nat_lt d.0 (length types.datatypes)) refl h
    where
      by : (b : Bool) (e : nat_lt d.0 (length types.datatypes) ≡ b) → b ≡ false
          → Has types.ctors sort.Bool (default_if d b e)
      by true e h = cc
      by false e h = truth_has types.ctors false

  -- a default that is of a datatype is the one of that datatype
  pub default_of_data : (s : Sort) (d : DataId) → Has types.ctors (sort.Tree d) (default_of s)
      → default_of s ≡ default_of (sort.Tree d)
  default_of_data s d h = by (is_sort types.datatypes s) refl
    where
      by : (b : Bool) → is_sort types.datatypes s ≡ b → default_of s ≡ default_of (sort.Tree d)
      by true e =
          ap default_of
          (sort_is_unique types.ctors (default_of s) s (sort.Tree d) (default_has_sort s e) h)
      by false e =
          let no : sort.Bool ≡ sort.Tree d =
          sort_is_unique types.ctors (default_of s) sort.Bool (sort.Tree d) (wrong_default s e) h in cc

  -- ---- fields

  abbrev default_in : Option Sort → Value
  default_in None = Truth false
  default_in (Some s) = default_of s

  abbrev default_at : Option Ctor → ℕ → Value
  default_at None place = Truth false
  default_at (Some k) place = default_in (slice_get k.fields place)

  -- what stands for a missing field: the default of its sort
  abbrev pub default_field : CtorId → ℕ → Value
  default_field c place = default_at (slice_get types.ctors c.0) place

  pub default_field_is : (c : CtorId) (k : Ctor) (place : ℕ) (s : Sort) → slice_get types.ctors c.0 ≡ Some k
      → slice_get k.fields place ≡ Some s → default_field c place ≡ default_of s
  default_field_is c k place s there at = ap (λ o. default_at o place) there ∙ ap default_in at

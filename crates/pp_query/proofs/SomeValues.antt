-- A value of each sort of a program, whose datatypes all have values. It stands for what nothing else determines: open
-- steps, and the fields that a value lacks.
use Rattle.std.specs.Prelude.{pos}
use Rattle.std.proofs.Common.{◌≡◌, ℕ, Bool, true, false, Option, Some, None, length, slice_get, refl, sym, ap, ◌∙◌}
use Rattle.std.proofs.Common.{subst}
use Rattle.std.proofs.lemmas.Bool.{ltb-true}
use Rattle.pp_prog.specs.declared.id.CtorId.{CtorId}
use Rattle.pp_prog.specs.declared.program.Program.{Program}
use Rattle.pp_prog.specs.declared.sort.Sort.{Sort}
use Rattle.pp_prog.specs.declared.sort.Sort.TheVariants as sort
use Rattle.pp_prog.specs.declared.types.Ctor.{Ctor}
use Rattle.pp_prog.specs.declared.value.Value.{Value}
use Rattle.pp_prog.specs.declared.value.Value.TheVariants.{Int, Bool as Truth}
use Rattle.pp_prog.specs.Table.{HaveValues, is_sort}
use Rattle.pp_prog.proofs.ValueSorts.{Has, int_has, truth_has}
use Rattle.pp_guess_values.proofs.Failing.{field_sort_stands}

module _ (p : Program) (inhabited : HaveValues p.types.datatypes p.types.ctors) where
  abbrev Of : Sort → Value → Type 0
  Of = Has p.types.ctors

  -- ---- sorts

  pub value_with_sort : (s : Sort) → is_sort p.types.datatypes s ≡ true → (v : Value) × Of s v
  value_with_sort sort.Int h = (Int (pos 0), int_has p.types.ctors (pos 0) refl)
  value_with_sort sort.Bool h = (Truth false, truth_has p.types.ctors false)
  value_with_sort (sort.Tree d) h =
      let v = inhabited d.0 (ltb-true d.0 (length p.types.datatypes) h) in (v.0, v.1)

  abbrev value_if : (s : Sort) (b : Bool) → is_sort p.types.datatypes s ≡ b → Value
  value_if s true e = (value_with_sort s e).0
  value_if s false e = Truth false

  -- some value of the sort, if it is one of the program
  abbrev pub some_value : Sort → Value
  some_value s = value_if s (is_sort p.types.datatypes s) refl

  pub some_value_has_sort : (s : Sort) → is_sort p.types.datatypes s ≡ true → Of s (some_value s)
  some_value_has_sort s h = by (is_sort p.types.datatypes s) refl h
    where
      by : (b : Bool) (e : is_sort p.types.datatypes s ≡ b) → b ≡ true → Of s (value_if s b e)
      by true e h = (value_with_sort s e).1
      by false e h = cc

  -- ---- fields

  abbrev field_in : Option Sort → Value
  field_in None = Truth false
  field_in (Some s) = some_value s

  abbrev field_at : Option Ctor → ℕ → Value
  field_at None place = Truth false
  field_at (Some k) place = field_in (slice_get k.fields place)

  -- some value of the field's sort
  abbrev pub some_field : CtorId → ℕ → Value
  some_field c place = field_at (slice_get p.types.ctors c.0) place

  pub some_field_has_sort : (c : CtorId) (k : Ctor) (place : ℕ) (s : Sort) → slice_get p.types.ctors c.0 ≡ Some k
      → slice_get k.fields place ≡ Some s → Of s (some_field c place)
  some_field_has_sort c k place s there at =
      subst (Of s) (sym (ap (λ o. field_at o place) there ∙ ap field_in at))
      (some_value_has_sort s (field_sort_stands p c k place s there at))

-- The fields of a value that a naming names can be held.
use Rattle.std.proofs.Common.{◌≡◌, ℕ, suc, true, List, [], ◌∷◌, All, arith}
use Rattle.std.proofs.lemmas.Bool.{and_parts}
use Rattle.pp_prog.specs.declared.id.DataId.{DataId}
use Rattle.pp_prog.specs.declared.sort.Sort.{Sort}
use Rattle.pp_prog.specs.declared.sort.Sort.TheVariants as sort
use Rattle.pp_prog.specs.declared.types.TypeTable.{TypeTable}
use Rattle.pp_prog.specs.declared.value.Value.{Value}
use Rattle.pp_prog.specs.Sorts.{has_sort, have_sorts}
use Rattle.pp_prog.proofs.Fields.{fields_sorted}
use Rattle.pp_prog.proofs.ValueSorts.{bool_value, int_value}
use Rattle.pp_eval.proofs.Ranges.{int_fits}
use Rattle.pp_domain.specs.Naming.{IsOfData, Names, Naming, NamesFields}
use Rattle.pp_named_order.specs.Short.{AreShort}
use Rattle.pp_named_contents.specs.Contents.{CanHold, CanHolds}
use Rattle.pp_named_contents.specs.FreshContents.{CanHoldFields}

module _ (low : ℕ) (types : TypeTable) (n : Naming) (short : AreShort low n) where
  can_hold : (s : Sort) (v : Value) → has_sort types.ctors v s ≡ true → Names types n v → CanHold low n s v
  can_hold sort.Int v has names =
      let z = int_value types.ctors v has in (z.number, z.is, int_fits z.number z.fits)
  can_hold sort.Bool v has names = let b = bool_value types.ctors v has in (b.truth, b.is)
  can_hold (sort.Tree d) v has names =
      let k = names d has in record {
        number = k.number;
        is = k.is;
        short = short d k.number v k.is;
      }

  can_holds : (ss : List Sort) (vs : List Value) → have_sorts types.ctors vs ss ≡ true → All (Names types n) vs
      → CanHolds low n ss vs
  can_holds [] [] have names = tt
  can_holds (s ∷ ss) (v ∷ vs) have names =
      let p = and_parts (has_sort types.ctors v s) _ have in (
        can_hold s v p.0 (names 0 v (omega arith)),
        can_holds ss vs p.1 (λ i d lt. names (suc i) d (omega arith)),
      )
  can_holds [] (v ∷ vs) have names = cc
  can_holds (s ∷ ss) [] have names = cc

  pub can_hold_fields : (d : DataId) (v : Value) → IsOfData types d v → NamesFields types n v
      → CanHoldFields low types n v
  can_hold_fields d v of names c k vs at is =
      can_holds k.fields vs (fields_sorted types.ctors c k d v vs at of is) (names c vs is)

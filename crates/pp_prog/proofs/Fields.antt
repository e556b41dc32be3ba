-- The fields of a tree of a datatype, and the one constructor of a datatype whose values have a field.
use Rattle.std.proofs.Common.{◌≡◌, ℕ, ◌+◌, ◌<◌, nat_eq, Bool, true, false, List, [], length, Option, None}
use Rattle.std.proofs.Common.{Some, refl, sym, ap, ◌∙◌, subst, arith, slice_get, if◌then◌else◌}
use Rattle.std.proofs.lemmas.Bool.{and_from, and_parts, eqb-true, leb-true, ltb-true}
use Rattle.std.proofs.lemmas.Option.{same_Some, slice_get_within}
use Rattle.pp_prog.specs.declared.id.CtorId.{CtorId}
use Rattle.pp_prog.specs.declared.id.DataId.{DataId}
use Rattle.pp_prog.specs.declared.sort.Sort.{Sort}
use Rattle.pp_prog.specs.declared.sort.Sort.TheVariants as sort
use Rattle.pp_prog.specs.declared.types.Ctor.{Ctor}
use Rattle.pp_prog.specs.declared.types.Datatype.{Datatype}
use Rattle.pp_prog.specs.declared.types.TypeTable.{TypeTable}
use Rattle.pp_prog.specs.declared.value.Value.{Value}
use Rattle.pp_prog.specs.declared.value.Value.TheVariants.{Tree}
use Rattle.pp_prog.specs.ExprSorts.{field_of_ctor, field_of_data, field_sort}
use Rattle.pp_prog.specs.Sorts.{has_sort, have_sorts}
use Rattle.pp_prog.specs.Table.{in_block, in_block_of, is_of}
use Rattle.pp_prog.proofs.Values.{ctor_same, same_ctor, same_fields}
use Rattle.pp_prog.proofs.ValueSorts.{tree_value}

-- the fields of a tree have the sorts of its constructor's
pub fields_sorted : (ctors : List Ctor) (c : CtorId) (k : Ctor) (d : DataId) (v : Value) (fields : List Value)
    → slice_get ctors c.0 ≡ Some k → has_sort ctors v (sort.Tree d) ≡ true → v ≡ Tree c fields
    → have_sorts ctors fields k.fields ≡ true
fields_sorted ctors c k d v fields at h is =
    let t = tree_value ctors d v h in
    let ctor : t.ctor ≡ c = same_ctor t.ctor c t.fields fields (sym t.is ∙ is) in
    let own : t.fields ≡ fields = same_fields t.ctor c t.fields fields (sym t.is ∙ is) in
    let entry : t.entry ≡ k =
    same_Some t.entry k (sym t.at ∙ ap (λ (x : CtorId). slice_get ctors x.0) ctor ∙ at) in
    subst (λ fs. have_sorts ctors fs k.fields ≡ true) own
    (subst (λ (e : Ctor). have_sorts ctors t.fields e.fields ≡ true) entry t.sorts)

-- the one constructor of a datatype, which has the field
pub record OnlyCtor (types : TypeTable) (t : Datatype) (d : DataId) (place : ℕ) (s : Sort) : Type 0 where
  pub entry : Ctor
  pub at : slice_get types.ctors t.first.0 ≡ Some entry
  pub of : entry.of ≡ d
  pub field : slice_get entry.fields place ≡ Some s
  pub only : (v : Value) → has_sort types.ctors v (sort.Tree d) ≡ true
      → (fields : List Value) × (v ≡ Tree t.first fields)

pub datatype_within : (types : TypeTable) (d : DataId) (place : ℕ) (s : Sort)
    → field_sort types [] d place ≡ Some s → d.0 < length types.datatypes
datatype_within types d place s h = by (slice_get types.datatypes d.0) refl h
  where
    by : (o : Option Datatype) → slice_get types.datatypes d.0 ≡ o → field_of_data types.ctors o place ≡ Some s
        → d.0 < length types.datatypes
    by None at g = cc
    by (Some t) at g = slice_get_within types.datatypes d.0 t at

pub only_ctor : (types : TypeTable) (t : Datatype) (d : DataId) (place : ℕ) (s : Sort)
    → slice_get types.datatypes d.0 ≡ Some t → field_sort types [] d place ≡ Some s → OnlyCtor types t d place s
only_ctor types t d place s there h =
    counted (nat_eq t.count 1) refl (ap (λ o. field_of_data types.ctors o place) (sym there) ∙ h)
  where
    data_from : (e : DataId) → e.0 ≡ d.0 → e ≡ d
    data_from e same = let mk : ℕ → DataId = λ n. record { 0 = n } in ap mk same

    first_in : t.count ≡ 1 → in_block t t.first.0 ≡ true
    first_in one = grind (arith, and_from)

    place_of : (n : ℕ) → t.count ≡ 1 → in_block t n ≡ true → n ≡ t.first.0
    place_of n one is =
        let q = and_parts _ _ is in
        let low = leb-true t.first.0 n q.0 in
        let high = ltb-true n (t.first.0 + t.count) q.1 in
        omega arith

    with_entry : t.count ≡ 1 → (o : Option Ctor) → slice_get types.ctors t.first.0 ≡ o
        → is_of d.0 o ≡ true → field_of_ctor o place ≡ Some s → OnlyCtor types t d place s
    with_entry one None at own g = cc
    with_entry one (Some k) at own g = record {
      entry = k;
      at = at;
      of = data_from k.of (eqb-true k.of.0 d.0 own);
      field = g;
      only = λ v has.
          let tree = tree_value types.ctors d v has in
          let there_too = ap (slice_get types.datatypes) (ap (λ (e : DataId). e.0) tree.data_of) ∙ there in
          let stands = subst (λ o. in_block_of o tree.ctor.0 ≡ true) there_too
          (types.agree.stands tree.ctor.0 tree.entry tree.at) in
          let first = ctor_same tree.ctor t.first (place_of tree.ctor.0 one stands) in
          (tree.fields, tree.is ∙ ap (λ x. Tree x tree.fields) first);
    }

    counted : (b : Bool) → nat_eq t.count 1 ≡ b
        → (if b then field_of_ctor (slice_get types.ctors t.first.0) place else None) ≡ Some s
        → OnlyCtor types t d place s
    counted true one g =
        let e = eqb-true t.count 1 one in
        with_entry e (slice_get types.ctors t.first.0) refl
        (types.agree.block d.0 t there t.first.0 (first_in e)) g
    counted false one g = cc

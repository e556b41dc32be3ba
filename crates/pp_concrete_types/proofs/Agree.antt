-- The datatypes and the constructors of a program agree.
use Rattle.std.proofs.Common.{◌≡◌, ℕ, ◌+◌, ◌-◌, ◌<◌, nat_le, nat_lt, true, ◌&&◌, List, map, length, refl, sym, ap, ◌∙◌}
use Rattle.std.proofs.Common.{subst, arith, eq-eqb}
use Rattle.std.specs.Prelude.{Option, Some, slice_get, IsTrue}
use Rattle.std.specs.List.{list_all}
use Rattle.std.proofs.lemmas.Bool.{and_from, and_parts, le-leb, leb-true, lt-ltb, ltb-true}
use Rattle.std.proofs.lemmas.List.{length-map}
use Rattle.std.proofs.lemmas.Option.{same_Some, slice_get_within}
use Rattle.pp_concrete_types.proofs.Lists.{all_mapped, contained, item_at, unmapped}
use Rattle.pp_concrete_types.proofs.Places.{ctor_behind, ctor_of, datatype_at, length_datatypes, root_stands}
use Rattle.pp_concrete_types.proofs.Rooms.{own_ctor}
use Rattle.pp_concrete_types.proofs.Types.{field_types, sort_is}
use Rattle.pp_concrete_types.specs.Datatypes.{AreDatatypes}
use Rattle.pp_instances.specs.Uses.{root_at}
use Rattle.pp_instances.specs.declared.member.Decl.TheVariants.{Root}
use Rattle.pp_instances.specs.declared.member.Instance.{Instance}
use Rattle.pp_instances.specs.declared.member.Member.{Member}
use Rattle.pp_prog.specs.Table.{Agree, in_block, in_block_of, is_of, is_sort}
use Rattle.pp_prog.specs.declared.types.Ctor.{Ctor}
use Rattle.pp_prog.specs.declared.types.Datatype.{Datatype}
use Rattle.pp_translation.specs.Numbers.{ctor_at, ctors, datatypes, decl_number, first_of, sort_at, stands_for}
use Rattle.pp_typed.specs.Put.{put}
use Rattle.pp_typed.specs.Sorted.{ctors_of}
use Rattle.pp_typed.specs.declared.typed.Typed.{Typed}
use Rattle.pp_typed.specs.declared.typed.TypedCtor.{TypedCtor}
use Rattle.pp_validity.proofs.Placed.{datatype}

stands_within : (first count j c : ℕ) → c ≡ first + j → j < count → nat_le first c && nat_lt c (first + count) ≡ true
stands_within first count j c e lt =
    and_from _ _ (le-leb first c (omega arith)) (lt-ltb c (first + count) (omega arith))

module _ (typed : Typed) (ris : List Instance) (are : AreDatatypes typed (map (stands_for Root) ris)) where
  abbrev roots : List Member
  roots = map (stands_for Root) ris

  abbrev own_datatypes : List Datatype
  own_datatypes = datatypes typed ris

  -- the datatype and the root of a constructor
  record ComesFrom (c : ℕ) (k : Ctor) : Type 0 where
    d : ℕ
    i : Instance
    at : slice_get ris d ≡ Some i
    j : ℕ
    ctor : TypedCtor
    found : slice_get (ctors_of typed.ctors i.number) j ≡ Some ctor
    place : c ≡ first_of typed.ctors roots d + j
    is : k ≡ ctor_at typed roots d i.args ctor

  comes_from : (c : ℕ) (k : Ctor) → slice_get (ctors typed roots) c ≡ Some k → ComesFrom c k
  comes_from c k h =
      let r = ctor_of typed roots 0 roots c k h in
      let i = unmapped (stands_for Root) ris r.d r.of r.at in
      let number : 0 + r.d ≡ r.d = omega arith in
      record {
        d = r.d;
        i = i.0;
        at = i.1;
        j = r.j;
        ctor = r.ctor;
        found = ap (λ (m : Member). slice_get (ctors_of typed.ctors (decl_number m.of)) r.j) i.2 ∙ r.found;
        place = r.place;
        is = r.is ∙ ap (λ n. ctor_at typed roots n r.of.args r.ctor) number
            ∙ ap (λ (m : Member). ctor_at typed roots r.d m.args r.ctor) (sym i.2);
      }

  ctor_stands : (c : ℕ) (k : Ctor) → ComesFrom c k → IsTrue (in_block_of (slice_get own_datatypes k.of.0) c)
  ctor_stands c k r =
      let all = typed.ctors in
      let here = ap (λ (z : Ctor). slice_get own_datatypes z.of.0) r.is ∙ datatype_at typed ris r.d r.i r.at in
      let lt = slice_get_within (ctors_of all r.i.number) r.j r.ctor r.found in
      ap (λ (o : Option Datatype). in_block_of o c) here
      ∙ stands_within (first_of all roots r.d) (length (ctors_of all r.i.number)) r.j c r.place lt

  own_block : (d : ℕ) (i : Instance) (c : ℕ) → slice_get ris d ≡ Some i
      → IsTrue (in_block (datatype typed.ctors (first_of typed.ctors roots d) i) c)
      → IsTrue (is_of d (slice_get (ctors typed roots) c))
  own_block d i c at h =
      let all = typed.ctors in
      let first = first_of all roots d in
      let count = length (ctors_of all i.number) in
      let parts = and_parts (nat_le first c) (nat_lt c (first + count)) h in
      let low = leb-true first c parts.0 in
      let high = ltb-true c (first + count) parts.1 in
      let k = item_at (ctors_of all i.number) (c - first) (omega arith) in
      let place : c ≡ first + (c - first) = omega arith in
      ap (λ n. is_of d (slice_get (ctors typed roots) n)) place
      ∙ ap (is_of d) (ctor_behind typed ris are.once d i at (c - first) k.0 k.1) ∙ eq-eqb d d refl

  datatype_block : (d : ℕ) (t : Datatype) → slice_get own_datatypes d ≡ Some t → (c : ℕ) → IsTrue (in_block t c)
      → IsTrue (is_of d (slice_get (ctors typed roots) c))
  datatype_block d t h c inside =
      let lt = slice_get_within own_datatypes d t h in
      let i = item_at ris d (subst (λ n. d < n) (length_datatypes typed ris) lt) in
      let is : t ≡ datatype typed.ctors (first_of typed.ctors roots d) i.0 =
      same_Some _ _ (sym h ∙ datatype_at typed ris d i.0 i.1) in
      own_block d i.0 c i.1 (subst (λ (z : Datatype). IsTrue (in_block z c)) is inside)

  ctor_fields : (c : ℕ) (k : Ctor) → ComesFrom c k → IsTrue (list_all (is_sort own_datatypes) k.fields)
  ctor_fields c k r =
      let own = own_ctor typed.ctors r.i.number r.j r.ctor r.found in
      let declared = contained typed.ctors own.place r.ctor own.at in
      let size = length_datatypes typed ris ∙ sym (length-map ris (stands_for Root)) in
      let m = root_at r.ctor.root r.i.args in
      let there = contained roots r.d m (root_stands typed ris r.d r.i r.ctor.root r.at own.root) in
      ap (λ (z : Ctor). list_all (is_sort own_datatypes) z.fields) r.is
      ∙ all_mapped (is_sort own_datatypes) (sort_at roots r.i.args) r.ctor.fields
      (λ n s at. sort_is roots own_datatypes size (put r.i.args s)
      (field_types typed roots are r.ctor r.i.args s declared there (contained r.ctor.fields n s at)))

  pub agree : Agree own_datatypes (ctors typed roots)
  agree = record {
    stands = λ c k h. ctor_stands c k (comes_from c k h);
    block = datatype_block;
    fields = λ c k h. ctor_fields c k (comes_from c k h);
  }

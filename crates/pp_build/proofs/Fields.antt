-- What reads a field of a tree, and what tells its constructor.
use Rattle.std.proofs.Common.{◌≡◌, ℕ, nat_eq, Bool, true, false, List, length}
use Rattle.std.proofs.Common.{subst, Some, refl, sym, ap, ◌∙◌, slice_get, if◌then◌else◌}
use Rattle.std.proofs.lemmas.Bool.{and_from, and_parts, eq-eqb, eqb-true, false≢true}
use Rattle.pp_prog.specs.declared.id.CtorId.{CtorId}
use Rattle.pp_prog.specs.declared.sort.Sort.TheVariants as sort
use Rattle.pp_prog.specs.declared.types.Ctor.{Ctor}
use Rattle.pp_prog.specs.declared.value.Value.{Value}
use Rattle.pp_prog.specs.declared.value.Value.TheVariants.{Bool as Truth, Tree, outs-Tree}
use Rattle.pp_prog.specs.Sorts.{has_sort}
use Rattle.pp_prog.proofs.Fields.{fields_sorted}
use Rattle.pp_prog.proofs.Values.{ctor_same}
use Rattle.pp_prog.proofs.ValueSorts.{IsTree, have_at, have_length, tree_value}
use Rattle.pp_prog.specs.declared.sort.Sort.{Sort}
use Rattle.pp_domain.specs.Naming.{IsDefault, IsFieldOf, Naming, other, own}
use Rattle.pp_eval.specs.Meaning.{field, field_in}
use Rattle.pp_eval.specs.Part.{found}
use Rattle.pp_steps.specs.Meaning.{Missing, ctor_field, ctor_field_in, has_ctor, has_ctor_in, value_or}

pub ctor_field_is : (missing : Missing) (c : CtorId) (place : ℕ) (v u : Value) (fields : List Value)
    → v ≡ Tree c fields → slice_get fields place ≡ Some u → ctor_field missing c place v ≡ u
ctor_field_is missing c place v u fields is at =
    let d = missing.field c place in
    ap (ctor_field missing c place) is ∙ ap (ctor_field_in d c place) (outs-Tree c fields)
    ∙ ap (λ (b : Bool). if b then value_or d (found (slice_get fields place)) else d) (eq-eqb c.0 c.0 refl)
    ∙ ap (λ o. value_or d (found o)) at

pub field_is : (c : CtorId) (place : ℕ) (v u : Value) (fields : List Value) → v ≡ Tree c fields
    → slice_get fields place ≡ Some u → value_or (Truth false) (field v place) ≡ u
field_is c place v u fields is at =
    ap (λ w. value_or (Truth false) (field w place)) is
    ∙ ap (λ o. value_or (Truth false) (field_in o place)) (outs-Tree c fields)
    ∙ ap (λ o. value_or (Truth false) (found o)) at

-- whether a value of the datatype has the constructor, with as many fields as it has
pub record Distinct (c : CtorId) (n : ℕ) (v : Value) : Type 0 where
  pub has : (fields : List Value) → v ≡ Tree c fields → has_ctor c n v ≡ true
  pub only : has_ctor c n v ≡ true → (fields : List Value) × (v ≡ Tree c fields)

pub has_ctor_is : (ctors : List Ctor) (c : CtorId) (k : Ctor) (n : ℕ) (v : Value) → slice_get ctors c.0 ≡ Some k
    → n ≡ length k.fields → has_sort ctors v (sort.Tree k.of) ≡ true → Distinct c n v
has_ctor_is ctors c k n v at many h = record {
  has = λ fields is.
      let sorts = fields_sorted ctors c k k.of v fields at h is in
      ap (has_ctor c n) is ∙ ap (has_ctor_in c n) (outs-Tree c fields)
      ∙ and_from (nat_eq c.0 c.0) (nat_eq n (length fields)) (eq-eqb c.0 c.0 refl)
      (eq-eqb n (length fields) (many ∙ sym (have_length ctors k.fields fields sorts)));
  only = λ has.
      let t = tree_value ctors k.of v h in
      let e = ap (has_ctor c n) t.is ∙ ap (has_ctor_in c n) (outs-Tree t.ctor t.fields) in
      let same = ctor_same c t.ctor (eqb-true c.0 t.ctor.0 (and_parts (nat_eq c.0 t.ctor.0)
      (nat_eq n (length t.fields)) (sym e ∙ has)).0) in
      (t.fields, t.is ∙ ap (λ x. Tree x t.fields) (sym same));
}

-- the value that a step reads in a field is what the operand has there
pub field_is_of : (ctors : List Ctor) (n : Naming) (missing : Missing) (c : CtorId) (k : Ctor) (place : ℕ) (s : Sort)
    (v u : Value) → slice_get ctors c.0 ≡ Some k → slice_get k.fields place ≡ Some s
    → has_sort ctors v (sort.Tree k.of) ≡ true → u ≡ ctor_field missing c place v → IsDefault n s
    (missing.field c place)
    → IsFieldOf n c place s v u
field_is_of ctors n missing c k place s v u entry field sorted does default =
    by (nat_eq c.0 t.ctor.0) refl
  where
    t : IsTree ctors k.of v
    t = tree_value ctors k.of v sorted

    by : (b : Bool) → nat_eq c.0 t.ctor.0 ≡ b → IsFieldOf n c place s v u
    by true e =
        let same = ctor_same c t.ctor (eqb-true c.0 t.ctor.0 e) in
        let is : v ≡ Tree c t.fields = t.is ∙ ap (λ x. Tree x t.fields) (sym same) in
        let f = have_at ctors k.fields t.fields place s
        (fields_sorted ctors c k k.of v t.fields entry sorted is) field in
        own t.fields is (f.1 ∙ ap Some (sym (does ∙ ctor_field_is missing c place v f.0 t.fields is f.1)))
    by false e =
        let d = missing.field c place in
        let value : u ≡ d = does ∙ ap (ctor_field missing c place) t.is
        ∙ ap (ctor_field_in d c place) (outs-Tree t.ctor t.fields)
        ∙ ap (λ (b : Bool). if b then value_or d (found (slice_get t.fields place)) else d) e in
        other t.ctor t.fields t.is
        (λ (same : t.ctor ≡ c). false≢true (sym e ∙ eq-eqb c.0 t.ctor.0 (ap (λ (x : CtorId). x.0) (sym same))))
        (subst (IsDefault n s) (sym value) default)

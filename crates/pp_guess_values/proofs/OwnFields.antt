-- A value has one sort at most, and as many fields as its constructor.
use Rattle.std.proofs.Common.{◌≡◌, ℕ, ◌≤◌, Bool, List, [], map, length, Some, slice_get, sym, ap, ◌∙◌, subst, arith}
use Rattle.std.proofs.Common.{true}
use Rattle.std.proofs.lemmas.Bool.{and_parts}
use Rattle.std.proofs.lemmas.Option.{same_Some}
use Rattle.pp_prog.specs.declared.id.CtorId.{CtorId}
use Rattle.pp_prog.specs.declared.id.DataId.{DataId}
use Rattle.pp_prog.specs.declared.sort.Sort.{Sort}
use Rattle.pp_prog.specs.declared.sort.Sort.TheVariants as sort
use Rattle.pp_prog.specs.declared.types.Ctor.{Ctor}
use Rattle.pp_prog.specs.declared.value.Value.{Value}
use Rattle.pp_prog.specs.declared.value.Value.TheFolds.{map-Value}
use Rattle.pp_prog.specs.declared.value.Value.TheOpen as layer
use Rattle.pp_prog.specs.declared.value.Value.TheVariants.{Tree, outs-Int, outs-Bool, outs-Tree}
use Rattle.pp_prog.specs.declared.value.Value.TheViews.{out-Value}
use Rattle.pp_prog.specs.Sizes.{by_sort}
use Rattle.pp_prog.specs.Sorts.{has_sort, has_step, is_int, same_sort}
use Rattle.pp_prog.proofs.ValueSorts.{Has, bool_value, have_length, int_value, level_has, one_sort, tree_is, tree_value}

abbrev fields_in : layer.Value-F Value → List Value
fields_in (layer.Int n) = []
fields_in (layer.Bool b) = []
fields_in (layer.Tree c fields) = fields

-- the fields of a tree; other values have none
abbrev pub own_fields : Value → List Value
own_fields v = fields_in (out-Value v)

pub tree_fields : (c : CtorId) (fields : List Value) (v : Value) → v ≡ Tree c fields → own_fields v ≡ fields
tree_fields c fields v is = ap own_fields is ∙ ap fields_in (outs-Tree c fields)

none_fit : (most : ℕ) → 0 ≤ most
none_fit most = omega arith

module _ (ctors : List Ctor) where
  abbrev Passes : layer.Value-F Value → Sort → Type 0
  Passes w s = has_step ctors (map-Value Value (Sort → Bool) (has_sort ctors) w) s ≡ true

  pub sort_is_unique : (v : Value) (s t : Sort) → Has ctors s v → Has ctors t v → s ≡ t
  sort_is_unique v s t h k = by (out-Value v) (level_has ctors v s h) (level_has ctors v t k)
    where
      by : (w : layer.Value-F Value) → Passes w s → Passes w t → s ≡ t
      by (layer.Int n) g j =
          sym (one_sort sort.Int s (and_parts (same_sort sort.Int s) (is_int n) g).0)
          ∙ one_sort sort.Int t (and_parts (same_sort sort.Int t) (is_int n) j).0
      by (layer.Bool b) g j = sym (one_sort sort.Bool s g) ∙ one_sort sort.Bool t j
      by (layer.Tree c ws) g j =
          let a = tree_is (slice_get ctors c.0) (map (has_sort ctors) ws) s g in
          let b = tree_is (slice_get ctors c.0) (map (has_sort ctors) ws) t j in
          sym a.2 ∙ ap (λ (e : Ctor). sort.Tree e.of) (same_Some a.0 b.0 (sym a.1 ∙ b.1)) ∙ b.2

  -- where no constructor has more fields than `most` of its datatype, no value has
  pub has_few_fields : (most : DataId → ℕ)
      → ((c : CtorId) (k : Ctor) → slice_get ctors c.0 ≡ Some k → length k.fields ≤ most k.of) → (s : Sort) (v : Value)
      → Has ctors s v → length (own_fields v) ≤ by_sort 0 0 most s
  has_few_fields most few sort.Int v h =
      let n = int_value ctors v h in
      subst (λ (fs : List Value). length fs ≤ 0) (sym (ap own_fields n.is ∙ ap fields_in (outs-Int n.number)))
      (none_fit 0)
  has_few_fields most few sort.Bool v h =
      let b = bool_value ctors v h in
      subst (λ (fs : List Value). length fs ≤ 0) (sym (ap own_fields b.is ∙ ap fields_in (outs-Bool b.truth)))
      (none_fit 0)
  has_few_fields most few (sort.Tree d) v h =
      let t = tree_value ctors d v h in
      subst (λ (fs : List Value). length fs ≤ most d) (sym (tree_fields t.ctor t.fields v t.is))
      (subst (λ n. n ≤ most d) (sym (have_length ctors t.entry.fields t.fields t.sorts))
      (subst (λ e. length t.entry.fields ≤ most e) t.data_of (few t.ctor t.entry t.at)))

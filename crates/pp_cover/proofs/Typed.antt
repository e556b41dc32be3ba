-- Values of sorts: parts of lists of them, what they are outermost, and that there are some.
use Rattle.std.proofs.Common.{◌≡◌, ℕ, zero, suc, pos, Bool, true, List, [], ◌∷◌, ◌++◌, length, Some, slice_get, refl}
use Rattle.std.proofs.Common.{sym, ap, ◌∙◌, subst}
use Rattle.std.proofs.lemmas.Bool.{and_from, and_parts, ltb-true}
use Rattle.std.specs.List.{list_all}
use Rattle.pp_prog.specs.declared.id.CtorId.{CtorId}
use Rattle.pp_prog.specs.declared.id.DataId.{DataId}
use Rattle.pp_prog.specs.declared.sort.Sort.{Sort}
use Rattle.pp_prog.specs.declared.sort.Sort.TheVariants as sort
use Rattle.pp_prog.specs.declared.types.Ctor.{Ctor}
use Rattle.pp_prog.specs.declared.types.Datatype.{Datatype}
use Rattle.pp_prog.specs.declared.value.Value.{Value}
use Rattle.pp_prog.specs.declared.value.Value.TheOpen as value
use Rattle.pp_prog.specs.declared.value.Value.TheViews.{out-Value}
use Rattle.pp_prog.specs.declared.value.Value.TheVariants.{Int, Bool as Truth, Tree, outs-Bool, outs-Tree}
use Rattle.pp_prog.specs.Sorts.{has_sort, have_sorts}
use Rattle.pp_prog.specs.Table.{HasValue, HaveValues, is_sort}
use Rattle.pp_prog.proofs.ValueSorts.{bool_value, int_has, tree_has_sort, tree_value, truth_has}
use Rattle.pp_cover.proofs.Lists.{put}

module _ (ctors : List Ctor) where
  -- values of two lists of sorts are two lists of values
  pub have_parts : (xs : List Value) (ss ts : List Sort) → have_sorts ctors xs (ss ++ ts) ≡ true →
      (us : List Value) × (ws : List Value) × (xs ≡ us ++ ws) × (have_sorts ctors us ss ≡ true) ×
      (have_sorts ctors ws ts ≡ true)
  have_parts xs [] ts h = ([], xs, refl, refl, h)
  have_parts [] (s ∷ ss) ts h = cc
  have_parts (x ∷ xs) (s ∷ ss) ts h =
      let parts = and_parts (has_sort ctors x s) (have_sorts ctors xs (ss ++ ts)) h in
      let more = have_parts xs ss ts parts.1 in (
        x ∷ more.0,
        more.1,
        ap (λ l. x ∷ l) more.2,
        and_from (has_sort ctors x s)
            (have_sorts ctors more.0 ss) parts.0 more.3,
        more.4,
      )

  pub have_put : (vs : List Value) (ss : List Sort) (k : ℕ) (s : Sort) (v : Value) → have_sorts ctors vs ss ≡ true →
      slice_get ss k ≡ Some s → has_sort ctors v s ≡ true → have_sorts ctors (put vs k v) ss ≡ true
  have_put vs [] k s v h at of = cc
  have_put [] (t ∷ ss) k s v h at of = cc
  have_put (u ∷ vs) (t ∷ ss) zero s v h at of =
      let same : t ≡ s = cc in
      let here : has_sort ctors v t ≡ true = subst (λ (r : Sort). has_sort ctors v r ≡ true) (sym same) of in
      and_from _ _ here (and_parts (has_sort ctors u t) (have_sorts ctors vs ss) h).1
  have_put (u ∷ vs) (t ∷ ss) (suc k) s v h at of =
      let parts = and_parts (has_sort ctors u t) (have_sorts ctors vs ss) h in
      and_from _ _ parts.0 (have_put vs ss k s v parts.1 at of)

  -- a truth value, or a tree of a constructor of the datatype
  pub bool_opened : (v : Value) → has_sort ctors v sort.Bool ≡ true → (b : Bool) × (out-Value v ≡ value.Bool b)
  bool_opened v h = let t = bool_value ctors v h in (t.truth, ap out-Value t.is ∙ outs-Bool t.truth)

  -- a value of a datatype: one of its constructors, and values of the sorts of its fields
  pub record Opened (d : DataId) (v : Value) : Type 0 where
    pub c : CtorId
    pub ws : List Value
    pub ctor : Ctor
    pub opens : out-Value v ≡ value.Tree c ws
    pub there : slice_get ctors c.0 ≡ Some ctor
    pub of : ctor.of.0 ≡ d.0
    pub have : have_sorts ctors ws ctor.fields ≡ true

  pub tree_opened : (d : DataId) (v : Value) → has_sort ctors v (sort.Tree d) ≡ true → Opened d v
  tree_opened d v h = let t = tree_value ctors d v h in record {
    c = t.ctor;
    ws = t.fields;
    ctor = t.entry;
    opens = ap out-Value t.is ∙ outs-Tree t.ctor t.fields;
    there = t.at;
    of = ap (λ (e : DataId). e.0) t.data_of;
    have = t.sorts;
  }

  pub tree_typed : (c : CtorId) (ws : List Value) (ctor : Ctor) (d : DataId) → slice_get ctors c.0 ≡ Some ctor →
      ctor.of.0 ≡ d.0 → have_sorts ctors ws ctor.fields ≡ true → has_sort ctors (Tree c ws) (sort.Tree d) ≡ true
  tree_typed c ws ctor d at of have =
      let mk : ℕ → Sort = λ n. sort.Tree (record { 0 = n }) in
      ap (has_sort ctors (Tree c ws)) (sym (ap mk of)) ∙ tree_has_sort ctors c ctor ws at have

  module _ (datatypes : List Datatype) (values : HaveValues datatypes ctors) where
    value_of : (s : Sort) → is_sort datatypes s ≡ true → HasValue ctors s
    value_of sort.Int h = (Int (pos 0), int_has ctors (pos 0) refl)
    value_of sort.Bool h = (Truth true, truth_has ctors true)
    value_of (sort.Tree d) h = values d.0 (ltb-true d.0 (length datatypes) h)

    -- sorts in range have values
    pub values_of : (ss : List Sort) → list_all (is_sort datatypes) ss ≡ true →
        (vs : List Value) × (have_sorts ctors vs ss ≡ true)
    values_of [] h = ([], refl)
    values_of (s ∷ ss) h =
        let parts = and_parts _ _ h in
        let v = value_of s parts.0 in
        let more = values_of ss parts.1 in
        (v.0 ∷ more.0, and_from (has_sort ctors v.0 s) (have_sorts ctors more.0 ss) v.1 more.1)

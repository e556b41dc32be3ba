-- Values and their sorts: lists of values, each of which has the sort at its place, and what a value of a sort is.
use Rattle.std.proofs.Common.{◌≡◌, ℕ, zero, suc, Bool, true, List, [], ◌∷◌, ◌++◌, map, length, Option, Some, None}
use Rattle.std.proofs.Common.{slice_get, refl, sym, ap, ◌∙◌, subst}
use Rattle.std.proofs.lemmas.Bool.{and_from, and_parts, eq-eqb, eqb-true}
use Rattle.pp_prog.specs.declared.id.CtorId.{CtorId}
use Rattle.pp_prog.specs.declared.id.DataId.{DataId}
use Rattle.pp_prog.specs.declared.sort.Sort.{Sort}
use Rattle.pp_prog.specs.declared.sort.Sort.TheVariants as sort
use Rattle.pp_prog.specs.declared.types.Ctor.{Ctor}
use Rattle.pp_prog.specs.declared.value.Value.{Value}
use Rattle.pp_prog.specs.declared.value.Value.TheFolds.{fold-roll-Value, fold_out-Value, map-Value}
use Rattle.pp_prog.specs.declared.value.Value.TheOpen as value
use Rattle.pp_prog.specs.declared.value.Value.TheVariants.{Int, Bool as Truth, Tree, rolls-Int, rolls-Bool, rolls-Tree}
use Rattle.pp_prog.specs.declared.value.Value.TheViews.{out-Value, roll-Value, roll-out-Value}
use Rattle.pp_prog.specs.Sorts.{fields_have, has_sort, has_step, have_sorts, is_int, same_sort, tree_has}
use lib.IntN.{ℤ}

-- what passes for the same sort is the same
pub one_sort : (s t : Sort) → same_sort s t ≡ true → s ≡ t
one_sort sort.Int sort.Int h = refl
one_sort sort.Int sort.Bool h = cc
one_sort sort.Int (sort.Tree d) h = cc
one_sort sort.Bool sort.Int h = cc
one_sort sort.Bool sort.Bool h = refl
one_sort sort.Bool (sort.Tree d) h = cc
one_sort (sort.Tree d) sort.Int h = cc
one_sort (sort.Tree d) sort.Bool h = cc
one_sort (sort.Tree d) (sort.Tree e) h =
    let mk : ℕ → Sort = λ n. sort.Tree (record { 0 = n }) in ap mk (eqb-true d.0 e.0 h)

pub its_sort : (s : Sort) → same_sort s s ≡ true
its_sort sort.Int = refl
its_sort sort.Bool = refl
its_sort (sort.Tree d) = eq-eqb d.0 d.0 refl

-- a tree's constructor, and the sorts of its fields
pub tree_is : (o : Option Ctor) (tests : List (Sort → Bool)) (s : Sort) → tree_has o tests s ≡ true → (k : Ctor)
    × (o ≡ Some k) × (sort.Tree k.of ≡ s) × (fields_have tests k.fields ≡ true)
tree_is None tests s h = cc
tree_is (Some k) tests s h = let e = and_parts (same_sort (sort.Tree k.of) s) _ h in (k, refl, one_sort _ s e.0, e.1)

same_data : (d e : DataId) → sort.Tree d ≡ sort.Tree e → d ≡ e
same_data d e h = cc

module _ (ctors : List Ctor) where
  -- the value has the sort
  abbrev pub Has : Sort → Value → Type 0
  Has s v = has_sort ctors v s ≡ true

  -- each value has the sort at its place
  abbrev pub Have : List Sort → List Value → Type 0
  Have sorts values = have_sorts ctors values sorts ≡ true

  pub have_more : (sorts more : List Sort) (vs ws : List Value) → Have sorts vs → Have more ws
      → Have (sorts ++ more) (vs ++ ws)
  have_more [] more [] ws h k = k
  have_more [] more (v ∷ vs) ws h k = cc
  have_more (s ∷ ss) more [] ws h k = cc
  have_more (s ∷ ss) more (v ∷ vs) ws h k =
      let p = and_parts (has_sort ctors v s) _ h in and_from (has_sort ctors v s) _ p.0 (have_more ss more vs ws p.1 k)

  pub have_one : (s : Sort) (v : Value) → Has s v → Have (s ∷ []) (v ∷ [])
  have_one s v h = and_from (has_sort ctors v s) true h refl

  -- the value at the place of a sort
  pub have_at : (sorts : List Sort) (vs : List Value) (i : ℕ) (s : Sort) → Have sorts vs → slice_get sorts i ≡ Some s
      → (v : Value) × (slice_get vs i ≡ Some v) × Has s v
  have_at [] [] i s h is = cc
  have_at [] (v ∷ vs) i s h is = cc
  have_at (t ∷ ts) [] i s h is = cc
  have_at (t ∷ ts) (v ∷ vs) zero s h is =
      let e : t ≡ s = cc in (v, refl, subst (λ u. Has u v) e (and_parts (has_sort ctors v t) _ h).0)
  have_at (t ∷ ts) (v ∷ vs) (suc i) s h is = have_at ts vs i s (and_parts (has_sort ctors v t) _ h).1 is

  pub have_length : (sorts : List Sort) (vs : List Value) → Have sorts vs → length vs ≡ length sorts
  have_length [] [] h = refl
  have_length [] (v ∷ vs) h = cc
  have_length (s ∷ ss) [] h = cc
  have_length (s ∷ ss) (v ∷ vs) h = ap suc (have_length ss vs (and_parts (has_sort ctors v s) _ h).1)

  -- ---- values by their constructors

  pub int_has : (n : ℤ) → is_int n ≡ true → Has sort.Int (Int n)
  int_has n h =
      ap (λ v. has_sort ctors v sort.Int) (sym (rolls-Int n))
      ∙ ap (λ f. f sort.Int) (fold-roll-Value (Sort → Bool) (has_step ctors) (value.Int n)) ∙ h

  pub truth_has : (b : Bool) → Has sort.Bool (Truth b)
  truth_has b =
      ap (λ v. has_sort ctors v sort.Bool) (sym (rolls-Bool b))
      ∙ ap (λ f. f sort.Bool) (fold-roll-Value (Sort → Bool) (has_step ctors) (value.Bool b))

  pub tree_has_sort : (c : CtorId) (k : Ctor) (vs : List Value) → slice_get ctors c.0 ≡ Some k → Have k.fields vs
      → Has (sort.Tree k.of) (Tree c vs)
  tree_has_sort c k vs is h =
      let s = sort.Tree k.of in
      ap (λ v. has_sort ctors v s) (sym (rolls-Tree c vs))
      ∙ ap (λ f. f s) (fold-roll-Value (Sort → Bool) (has_step ctors) (value.Tree c vs))
      ∙ ap (λ o. tree_has o (map (has_sort ctors) vs) s) is ∙ and_from (same_sort s s) _ (its_sort s) h

  -- ---- what a value of a sort is

  -- the test of a value, one level down
  pub level_has : (v : Value) (s : Sort) → Has s v → has_step ctors
      (map-Value Value (Sort → Bool) (has_sort ctors) (out-Value v)) s ≡ true
  level_has v s h = sym (ap (λ f. f s) (fold_out-Value (Sort → Bool) (has_step ctors) v)) ∙ h

  pub record IsNumber (v : Value) : Type 0 where
    pub number : ℤ
    pub is : v ≡ Int number
    pub fits : is_int number ≡ true

  pub int_value : (v : Value) → Has sort.Int v → IsNumber v
  int_value v h = by (out-Value v) refl (level_has v sort.Int h)
    where
      by : (w : value.Value-F Value) → out-Value v ≡ w
          → has_step ctors (map-Value Value (Sort → Bool) (has_sort ctors) w) sort.Int ≡ true → IsNumber v
      by (value.Int n) e g = record {
        number = n;
        is = sym (roll-out-Value v) ∙ ap roll-Value e ∙ rolls-Int n;
        fits = g;
      }
      by (value.Bool b) e g = cc
      by (value.Tree c ws) e g = let k = tree_is (slice_get ctors c.0) (map (has_sort ctors) ws) sort.Int g in
          let no : sort.Tree k.0.of ≡ sort.Int = k.2 in cc

  pub record IsTruth (v : Value) : Type 0 where
    pub truth : Bool
    pub is : v ≡ Truth truth

  pub bool_value : (v : Value) → Has sort.Bool v → IsTruth v
  bool_value v h = by (out-Value v) refl (level_has v sort.Bool h)
    where
      by : (w : value.Value-F Value) → out-Value v ≡ w
          → has_step ctors (map-Value Value (Sort → Bool) (has_sort ctors) w) sort.Bool ≡ true → IsTruth v
      by (value.Int n) e g = cc
      by (value.Bool b) e g = record { truth = b; is = sym (roll-out-Value v) ∙ ap roll-Value e ∙ rolls-Bool b }
      by (value.Tree c ws) e g = let k = tree_is (slice_get ctors c.0) (map (has_sort ctors) ws) sort.Bool g in
          let no : sort.Tree k.0.of ≡ sort.Bool = k.2 in cc

  pub record IsTree (d : DataId) (v : Value) : Type 0 where
    pub ctor : CtorId
    pub fields : List Value
    pub is : v ≡ Tree ctor fields
    pub entry : Ctor
    pub at : slice_get ctors ctor.0 ≡ Some entry
    pub data_of : entry.of ≡ d
    pub sorts : Have entry.fields fields

  pub tree_value : (d : DataId) (v : Value) → Has (sort.Tree d) v → IsTree d v
  tree_value d v h = by (out-Value v) refl (level_has v (sort.Tree d) h)
    where
      by : (w : value.Value-F Value) → out-Value v ≡ w
          → has_step ctors (map-Value Value (Sort → Bool) (has_sort ctors) w) (sort.Tree d) ≡ true → IsTree d v
      by (value.Int n) e g = cc
      by (value.Bool b) e g = cc
      by (value.Tree c ws) e g =
          let k = tree_is (slice_get ctors c.0) (map (has_sort ctors) ws) (sort.Tree d) g in record {
            ctor = c;
            fields = ws;
            is = sym (roll-out-Value v) ∙ ap roll-Value e ∙ rolls-Tree c ws;
            entry = k.0;
            at = k.1;
            data_of = same_data k.0.of d k.2;
            sorts = k.3;
          }

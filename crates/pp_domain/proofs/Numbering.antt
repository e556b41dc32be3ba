-- The numbering of a short list is a naming that names its values.
use Rattle.std.proofs.Common.{◌≡◌, ℕ, zero, suc, ◌<◌, ◌≤◌, ◌^◌, Bool, true, false, if◌then◌else◌, List, [], ◌∷◌, length}
use Rattle.std.proofs.Common.{Some, refl, sym, ap, ◌∙◌, subst, arith, inl, inr, slice_get}
use Rattle.std.specs.Prelude.{slice_index_or}
use Rattle.std.proofs.lemmas.Bool.{both_ways, cases_Bool}
use Rattle.std.proofs.lemmas.Option.{slice_get_within, slice_get-get_or, same_Some}
use Rattle.pp_prog.specs.declared.id.DataId.{DataId}
use Rattle.pp_prog.specs.declared.sort.Sort.TheVariants as sort
use Rattle.pp_prog.specs.declared.types.TypeTable.{TypeTable}
use Rattle.pp_prog.specs.declared.value.Value.{Value}
use Rattle.pp_prog.specs.Sorts.{has_sort}
use Rattle.pp_eval.specs.Equality.{equal}
use Rattle.pp_eval.proofs.Trees.{equal_same, equal_self}
use Rattle.pp_domain.specs.Naming.{IsNaming, NamesAll, first_of}
use Rattle.pp_domain.specs.Numbering.{without, distinct, numbering, ListsAreNamed}

-- the value stands somewhere in the list
abbrev At : List Value → Value → Type 0
At xs v = (k : ℕ) × (slice_get xs k ≡ Some v)

next : (x v : Value) (xs : List Value) → At xs v → At (x ∷ xs) v
next x v xs h = (suc h.0, h.1)

-- what is left without v stood there before, and isn't v
without_step : (v x w : Value) (xs : List Value) (k : ℕ) (b : Bool) → equal v x ≡ b
    → ((j : ℕ) → slice_get (without v xs) j ≡ Some w → At xs w × (equal v w ≡ false))
    → slice_get (if b then without v xs else x ∷ without v xs) k ≡ Some w → At (x ∷ xs) w × (equal v w ≡ false)
without_step v x w xs k true e rest h = let r = rest k h in (next x w xs r.0, r.1)
without_step v x w xs zero false e rest h =
    let same : Some x ≡ Some w = h in ((0, h), subst (λ y. equal v y ≡ false) (same_Some x w same) e)
without_step v x w xs (suc k) false e rest h = let r = rest k h in (next x w xs r.0, r.1)

without_at : (v w : Value) (xs : List Value) (k : ℕ) → slice_get (without v xs) k ≡ Some w
    → At xs w × (equal v w ≡ false)
without_at v w [] k h = cc
without_at v w (x ∷ xs) k h = without_step v x w xs k (equal v x) refl (λ j g. without_at v w xs j g) h

-- and all else that stood there is left
left_step : (v x w : Value) (xs : List Value) (k : ℕ) (b : Bool) → equal v x ≡ b → equal v w ≡ false
    → ((j : ℕ) → slice_get xs j ≡ Some w → At (without v xs) w) → slice_get (x ∷ xs) k ≡ Some w
    → At (if b then without v xs else x ∷ without v xs) w
left_step v x w xs zero true e differ rest h = let same : Some x ≡ Some w = h in absurd
    (both_ways (equal v w) differ (other same))
  where
    other : Some x ≡ Some w → equal v w ≡ true
    other p = cc
left_step v x w xs (suc k) true e differ rest h = rest k h
left_step v x w xs zero false e differ rest h = (0, h)
left_step v x w xs (suc k) false e differ rest h = next x w (without v xs) (rest k h)

without_left : (v w : Value) (xs : List Value) (k : ℕ) → equal v w ≡ false → slice_get xs k ≡ Some w
    → At (without v xs) w
without_left v w [] k differ h = cc
without_left v w (x ∷ xs) k differ h =
    left_step v x w xs k (equal v x) refl differ (λ j g. without_left v w xs j differ g) h

without_shorter : (v : Value) (xs : List Value) → length (without v xs) ≤ length xs
without_shorter v [] = omega arith
without_shorter v (x ∷ xs) = step (equal v x) (without_shorter v xs)
  where
    step : (b : Bool) → length (without v xs) ≤ length xs
        → length (if b then without v xs else x ∷ without v xs) ≤ length (x ∷ xs)
    step true h = omega arith
    step false h = omega arith

-- no value stands twice
abbrev Once : List Value → Type 0
Once [] = Unit {0}
Once (x ∷ xs) = ((k : ℕ) → slice_get xs k ≡ Some x → ⊥) × Once xs

without_once : (v : Value) (xs : List Value) → Once xs → Once (without v xs)
without_once v [] h = tt
without_once v (x ∷ xs) h = step (equal v x) (without_once v xs h.1)
  where
    step : (b : Bool) → Once (without v xs) → Once (if b then without v xs else x ∷ without v xs)
    step true rest = rest
    step false rest = (λ k g. let r = (without_at v x xs k g).0 in h.0 r.0 r.1, rest)

once_apart : (xs : List Value) (j k : ℕ) (v : Value) → Once xs → slice_get xs j ≡ Some v → slice_get xs k ≡ Some v
    → j ≡ k
once_apart [] j k v once g h = cc
once_apart (x ∷ xs) zero zero v once g h = refl
once_apart (x ∷ xs) zero (suc k) v once g h = absurd (once.0 k (h ∙ sym g))
once_apart (x ∷ xs) (suc j) zero v once g h = absurd (once.0 j (g ∙ sym h))
once_apart (x ∷ xs) (suc j) (suc k) v once g h = ap suc (once_apart xs j k v once.1 g h)

module _ (types : TypeTable) (d : DataId) where
  abbrev is : Value → Bool
  is v = has_sort types.ctors v (sort.Tree d)

  distinct_once : (vs : List Value) → Once (distinct types d vs)
  distinct_once [] = tt
  distinct_once (v ∷ vs) = step (is v) (distinct_once vs)
    where
      step : (b : Bool) → Once (distinct types d vs)
          → Once (if b then v ∷ without v (distinct types d vs) else distinct types d vs)
      step true rest = (
        λ k g. both_ways (equal v v) (without_at v v (distinct types d vs) k g).1 (equal_self v),
        without_once v (distinct types d vs) rest,
      )
      step false rest = rest

  distinct_shorter : (vs : List Value) → length (distinct types d vs) ≤ length vs
  distinct_shorter [] = omega arith
  distinct_shorter (v ∷ vs) = step (is v) (distinct_shorter vs)
    where
      step : (b : Bool) → length (distinct types d vs) ≤ length vs
          → length (if b then v ∷ without v (distinct types d vs) else distinct types d vs) ≤ length (v ∷ vs)
      step true h = let g = without_shorter v (distinct types d vs) in omega arith
      step false h = omega arith

  distinct_sorts : (vs : List Value) (k : ℕ) (w : Value) → slice_get (distinct types d vs) k ≡ Some w → is w ≡ true
  distinct_sorts [] k w h = cc
  distinct_sorts (v ∷ vs) k w h = step (is v) refl (λ i f. distinct_sorts vs i w f) k h
    where
      same : Some v ≡ Some w → v ≡ w
      same p = cc

      step : (b : Bool) → is v ≡ b → ((i : ℕ) → slice_get (distinct types d vs) i ≡ Some w → is w ≡ true) → (j : ℕ)
          → slice_get (if b then v ∷ without v (distinct types d vs) else distinct types d vs) j ≡ Some w → is w ≡ true
      step true e rest zero g = subst (λ u. is u ≡ true) (same g) e
      step true e rest (suc j) g = let r = (without_at v w (distinct types d vs) j g).0 in rest r.0 r.1
      step false e rest j g = rest j g

  distinct_has : (vs : List Value) (k : ℕ) (w : Value) → is w ≡ true → slice_get vs k ≡ Some w
      → At (distinct types d vs) w
  distinct_has [] k w of h = cc
  distinct_has (v ∷ vs) k w of h = step (is v) refl k (λ i f. distinct_has vs i w of f) h
    where
      other : Some v ≡ Some w → is v ≡ true
      other p = subst (λ u. is u ≡ true) (sym (same p)) of
        where
          same : Some v ≡ Some w → v ≡ w
          same q = cc

      among : (xs : List Value) → At xs w → At (v ∷ without v xs) w
      among xs at = elim (cases_Bool (equal v w)) [
        | inl e ↦ (0, ap Some (equal_same v w e))
        | inr e ↦ next v w (without v xs) (without_left v w xs at.0 e at.1)
      ]

      step : (b : Bool) → is v ≡ b → (j : ℕ) → ((i : ℕ) → slice_get vs i ≡ Some w → At (distinct types d vs) w)
          → slice_get (v ∷ vs) j ≡ Some w
          → At (if b then v ∷ without v (distinct types d vs) else distinct types d vs) w
      step true e zero rest g = (0, g)
      step true e (suc j) rest g = among (distinct types d vs) (rest j g)
      step false e zero rest g = absurd (both_ways (is v) e (other g))
      step false e (suc j) rest g = rest j g

  distinct_first : (vs : List Value) (v : Value) → first_of types d vs ≡ Some v
      → slice_get (distinct types d vs) 0 ≡ Some v
  distinct_first [] v h = cc
  distinct_first (w ∷ vs) v h = step (is w) (λ f. distinct_first vs v f) h
    where
      step : (b : Bool) → (first_of types d vs ≡ Some v → slice_get (distinct types d vs) 0 ≡ Some v)
          → (if b then Some w else first_of types d vs) ≡ Some v
          → slice_get (if b then w ∷ without w (distinct types d vs) else distinct types d vs) 0 ≡ Some v
      step true rest g = g
      step false rest g = rest g

pub numbering_is : (types : TypeTable) (vs : List Value) → length vs < 2 ^ 30 → IsNaming types (numbering types vs)
numbering_is types vs few = record {
  within = λ d k v h.
      let a = slice_get_within (distinct types d vs) k v h in
      let b = distinct_shorter types d vs in omega arith;
  sorts = λ d k v h. distinct_sorts types d vs k v h;
  apart = λ d j k v g h. once_apart (distinct types d vs) j k v (distinct_once types d vs) g h;
}

pub numbering_names : (types : TypeTable) (vs : List Value) → NamesAll types (numbering types vs) vs
numbering_names types vs = record {
  names = λ k v lt d of.
      let at = slice_get_or vs k v lt in
      let r = distinct_has types d vs k (slice_index_or vs k v) of at in record { number = r.0; is = r.1 };
  firsts = λ d v h. distinct_first types d vs v h;
}
  where
    slice_get_or : (xs : List Value) (k : ℕ) (v : Value) → k < length xs → slice_get xs k ≡ Some (slice_index_or xs k v)
    slice_get_or xs k v lt = slice_get-get_or xs k v lt

pub lists_are_named : ListsAreNamed
lists_are_named types vs few = (numbering types vs, numbering_is types vs few, numbering_names types vs)

-- The naming by ranks names the values of a short list, in an order.
use Rattle.std.proofs.Common.{◌≡◌, ◌⊎◌, ◌≤◌, ℕ, zero, suc, ◌+◌, ◌-◌, ◌*◌, ◌%◌, ◌<◌, ◌^◌, Bool, true, false, nat_eq}
use Rattle.std.proofs.Common.{cond, inl, inr}
use Rattle.std.proofs.Common.{if◌then◌else◌, List, [], ◌∷◌, length, Option, Some, None, refl, sym, ap, ◌∙◌, subst}
use Rattle.std.proofs.Common.{arith}
use Rattle.std.proofs.Common.{slice_get, find}
use Rattle.std.specs.Prelude.{slice_index_or}
use Rattle.std.proofs.lemmas.Bool.{and_from, and_parts, eqb-true, eq-eqb, cases_lt}
use Rattle.std.proofs.lemmas.Nat.{mod_below, mod_low}
use Rattle.std.proofs.lemmas.Option.{slice_get-get_or}
use Rattle.pp_prog.specs.declared.id.DataId.{DataId}
use Rattle.pp_prog.specs.declared.sort.Sort.TheVariants as sort
use Rattle.pp_prog.specs.declared.types.TypeTable.{TypeTable}
use Rattle.pp_prog.specs.declared.value.Value.{Value}
use Rattle.pp_prog.specs.Sorts.{has_sort}
use Rattle.pp_domain.specs.Naming.{IsNaming, NamesAll, first_of}
use Rattle.pp_domain.specs.Short.{IsShort}
use Rattle.pp_named_order.specs.Short.{AreShort}
use Rattle.pp_named_order.specs.Order.{IsOrder, place}
use Rattle.pp_named_order.specs.Ranks.{rank, rank_of, first_rank, number, has_number, ranked, group_rank, level}
use Rattle.pp_named_order.specs.Ranks.{IsOrdered, ListsAreOrdered}
use Rattle.pp_named_order.proofs.Ranks.{At, rank_short, rank_apart, field_rank}

-- what is found passes the test and stands in the list, and what passes it is found
find_told : (p : Value → Bool) (vs : List Value) (v : Value) → find p vs ≡ Some v → (p v ≡ true) × At vs v
find_told p [] v h = cc
find_told p (w ∷ ws) v h = step (p w) refl (λ g. find_told p ws v g) h
  where
    same : Some w ≡ Some v → w ≡ v
    same e = cc

    step : (b : Bool) → p w ≡ b → (find p ws ≡ Some v → (p v ≡ true) × At ws v)
        → cond b (Some w) (find p ws) ≡ Some v → (p v ≡ true) × At (w ∷ ws) v
    step true e rest g = (subst (λ u. p u ≡ true) (same g) e, (0, g))
    step false e rest g = let r = rest g in (r.0, (suc r.1.0, r.1.1))

find_has : (p : Value → Bool) (vs : List Value) (k : ℕ) (v : Value) → slice_get vs k ≡ Some v → p v ≡ true
    → (w : Value) × (find p vs ≡ Some w)
find_has p [] k v at is = cc
find_has p (w ∷ ws) k v at is = step (p w) refl k (λ j here. find_has p ws j v here is) at
  where
    step : (b : Bool) → p w ≡ b → (j : ℕ)
        → ((i : ℕ) → slice_get ws i ≡ Some v → (u : Value) × (find p ws ≡ Some u)) → slice_get (w ∷ ws) j ≡ Some v
        → (u : Value) × (cond b (Some w) (find p ws) ≡ Some u)
    step true e j rest here = (w, refl)
    step false e zero rest here =
        let same : w ≡ v = cc in
        let no : false ≡ true = sym e ∙ ap p same ∙ is in cc
    step false e (suc j) rest here = rest j here

first_told : (types : TypeTable) (d : DataId) (vs : List Value) (v : Value) → first_of types d vs ≡ Some v
    → (has_sort types.ctors v (sort.Tree d) ≡ true) × At vs v
first_told types d [] v h = cc
first_told types d (w ∷ ws) v h =
    step (has_sort types.ctors w (sort.Tree d)) refl (λ g. first_told types d ws v g) h
  where
    same : Some w ≡ Some v → w ≡ v
    same e = cc

    step : (b : Bool) → has_sort types.ctors w (sort.Tree d) ≡ b
        → (first_of types d ws ≡ Some v → (has_sort types.ctors v (sort.Tree d) ≡ true) × At ws v)
        → (if b then Some w else first_of types d ws) ≡ Some v
        → (has_sort types.ctors v (sort.Tree d) ≡ true) × At (w ∷ ws) v
    step true e rest g = (subst (λ u. has_sort types.ctors u (sort.Tree d) ≡ true) (same g) e, (0, g))
    step false e rest g = let r = rest g in (r.0, (suc r.1.0, r.1.1))

-- ---- numbers and places

wrapped : (n v : ℕ) → n ≡ v + 2 ^ 32 → v < 2 ^ 32 → n % 2 ^ 32 ≡ v
wrapped n v e lt = ap (λ m. m % 2 ^ 32) (let f : n ≡ 1 * 2 ^ 32 + v = omega arith in f) ∙ mod_low 1 32 v lt

kept : (v : ℕ) → v < 2 ^ 32 → v % 2 ^ 32 ≡ v
kept v lt = ap (λ m. m % 2 ^ 32) (let f : v ≡ 0 * 2 ^ 32 + v = omega arith in f) ∙ mod_low 0 32 v lt

-- a value of rank r, where the first of its datatype has rank f and that of its group g
place_is : (r f g : ℕ) → r < 2 ^ 30 → f < 2 ^ 30 → g < 2 ^ 30
    → place (2 ^ 31 + f - g) ((2 ^ 32 + r - f) % 2 ^ 32) ≡ 2 ^ 31 + r - g
place_is r f g low first group = elim (cases_lt r f) [
  | inl lt ↦
      let own = kept (2 ^ 32 + r - f) (omega arith) in
      ap (λ n. (n + (2 ^ 31 + f - g)) % 2 ^ 32) own
      ∙ wrapped (2 ^ 32 + r - f + (2 ^ 31 + f - g)) (2 ^ 31 + r - g) (omega arith) (omega arith)
  | inr ge ↦
      let own = wrapped (2 ^ 32 + r - f) (r - f) (omega arith) (omega arith) in
      ap (λ n. (n + (2 ^ 31 + f - g)) % 2 ^ 32) own
      ∙ ap (λ n. n % 2 ^ 32) (let e : r - f + (2 ^ 31 + f - g) ≡ 2 ^ 31 + r - g = omega arith in e)
      ∙ kept (2 ^ 31 + r - g) (omega arith)
]

-- the number of a value of rank r, where the first of its datatype has rank f
short_number : (r f n most : ℕ) → r ≤ n → f ≤ n → n < 2 ^ 30 → n < most
    → ((2 ^ 32 + r - f) % 2 ^ 32 < most) ⊎ ((2 ^ 32 ≤ (2 ^ 32 + r - f) % 2 ^ 32 + most)
    × ((2 ^ 32 + r - f) % 2 ^ 32 < 2 ^ 32))
short_number r f n most value first few le = elim (cases_lt r f) [
  | inl lt ↦
      let own = kept (2 ^ 32 + r - f) (omega arith) in inr ((omega (arith, own)), (omega (arith, own)))
  | inr ge ↦
      let own = wrapped (2 ^ 32 + r - f) (r - f) (omega arith) (omega arith) in inl (omega (arith, own))
]

module _ (types : TypeTable) (vs : List Value) (few : length vs < 2 ^ 30) where
  rank_low : (v : Value) → rank vs v < 2 ^ 30
  rank_low v = let s = rank_short vs v in omega arith

  some_low : (o : Option Value) → rank_of vs o < 2 ^ 30
  some_low None = omega arith
  some_low (Some v) = rank_low v

  first_low : (d : DataId) → first_rank types vs d < 2 ^ 30
  first_low d = some_low (first_of types d vs)

  group_low : (o : Option ℕ) → group_rank types vs o < 2 ^ 30
  group_low None = omega arith
  group_low (Some g) = first_low (record { 0 = g })

  placed : (d : DataId) (v : Value) (g : ℕ) → g < 2 ^ 30
      → place (2 ^ 31 + first_rank types vs d - g) (number types vs d v) ≡ 2 ^ 31 + rank vs v - g
  placed d v g low = place_is (rank vs v) (first_rank types vs d) g (rank_low v) (first_low d) low

  same_number : (d : DataId) (v w : Value) → At vs v → At vs w → number types vs d v ≡ number types vs d w → v ≡ w
  same_number d v w at to same =
      let zero_low : 0 < 2 ^ 30 = omega arith in
      let e = sym (placed d v 0 zero_low)
      ∙ ap (λ n. place (2 ^ 31 + first_rank types vs d - 0) n) same ∙ placed d w 0 zero_low in
      rank_apart vs v w at to (omega arith)

  named_told : (d : DataId) (k : ℕ) (v : Value) → ranked types vs d k ≡ Some v
      → (has_sort types.ctors v (sort.Tree d) ≡ true) × (number types vs d v ≡ k) × At vs v
  named_told d k v h =
      let f = find_told (has_number types vs d k) vs v h in
      let p = and_parts (has_sort types.ctors v (sort.Tree d)) (nat_eq (number types vs d v) k) f.0 in
      (p.0, eqb-true (number types vs d v) k p.1, f.1)

  named_has : (d : DataId) (k j : ℕ) (v : Value) → has_sort types.ctors v (sort.Tree d) ≡ true
      → slice_get vs j ≡ Some v → number types vs d v ≡ k → ranked types vs d k ≡ Some v
  named_has d k j v of at is =
      let found = find_has (has_number types vs d k) vs j v at
      (and_from (has_sort types.ctors v (sort.Tree d)) (nat_eq (number types vs d v) k) of
      (eq-eqb (number types vs d v) k is)) in
      let told = named_told d k found.0 found.1 in
      found.1 ∙ ap Some (same_number d found.0 v told.2 (j, at) (told.1 ∙ sym is))

  first_number : (d : DataId) (v : Value) → first_of types d vs ≡ Some v → number types vs d v ≡ 0
  first_number d v h =
      let e : first_rank types vs d ≡ rank vs v = ap (rank_of vs) h in
      wrapped (2 ^ 32 + rank vs v - first_rank types vs d) 0 (omega arith) (omega arith)

  number_low : (d : DataId) (v : Value) → number types vs d v < 2 ^ 32
  number_low d v = mod_below (2 ^ 32 + rank vs v - first_rank types vs d) (2 ^ 32) (omega arith)

  some_short : (o : Option Value) → rank_of vs o ≤ length vs
  some_short None = omega arith
  some_short (Some v) = rank_short vs v

  -- numbers differ from 0, modulo 2^32, by less than there are values
  number_short : (low : ℕ) → length vs < 2 ^ low → (d : DataId) (v : Value) → IsShort low (number types vs d v)
  number_short low most d v =
      short_number (rank vs v) (first_rank types vs d) (length vs) (2 ^ low) (rank_short vs v)
      (some_short (first_of types d vs)) few most

  ranked_short : (low : ℕ) → length vs < 2 ^ low → AreShort low (ranked types vs)
  ranked_short low most d k v h =
      let t = named_told d k v h in subst (IsShort low) t.1 (number_short low most d v)

  ranked_is : IsNaming types (ranked types vs)
  ranked_is = record {
    within = λ d k v h. let t = named_told d k v h in subst (λ n. n < 2 ^ 32) t.1 (number_low d v);
    sorts = λ d k v h. (named_told d k v h).0;
    apart = λ d j k v g h. sym (named_told d j v g).1 ∙ (named_told d k v h).1;
  }

  ranked_names : NamesAll types (ranked types vs) vs
  ranked_names = record {
    names = λ k v lt d of. record {
      number = number types vs d (slice_index_or vs k v);
      is = named_has d (number types vs d (slice_index_or vs k v)) k (slice_index_or vs k v) of
          (slice_get-get_or vs k v lt) refl;
    };
    firsts = λ d v h. let t = first_told types d vs v h in
        named_has d 0 t.1.0 v t.0 t.1.1 (first_number d v h);
  }

  ranked_order : (groups : List ℕ) → IsOrder groups (ranked types vs) (level types vs groups)
  ranked_order groups = record {
    within = λ d. let f = first_low d in omega arith;
    base = λ d e. let g = ap (group_rank types vs) e in omega arith;
    below = λ d e j k v u one at to is.
        let own = named_told d k v at in
        let field = named_told e j u to in
        let low = group_low (Some one.group) in
        let first = ap (group_rank types vs) one.first in
        let second = ap (group_rank types vs) one.second in
        let here = ap (λ n. place (2 ^ 31 + first_rank types vs d - n) k) first
        ∙ ap (λ n. place (2 ^ 31 + first_rank types vs d - group_rank types vs (Some one.group)) n) (sym own.1)
        ∙ placed d v (group_rank types vs (Some one.group)) low in
        let there = ap (λ n. place (2 ^ 31 + first_rank types vs e - n) j) second
        ∙ ap (λ n. place (2 ^ 31 + first_rank types vs e - group_rank types vs (Some one.group)) n) (sym field.1)
        ∙ placed e u (group_rank types vs (Some one.group)) low in
        let lower = field_rank vs u v field.2 is in omega arith;
  }

  ordered : IsOrdered types vs (ranked types vs)
  ordered = record {
    naming = ranked_is;
    names = ranked_names;
    short = ranked_short;
    order = λ groups. (level types vs groups, ranked_order groups);
  }

pub lists_are_ordered : ListsAreOrdered
lists_are_ordered types vs few = ordered types vs few

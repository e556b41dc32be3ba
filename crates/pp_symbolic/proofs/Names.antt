-- How many values have to be named: the counts, and that a domain with so many names can name them.
use Rattle.std.proofs.Common.{◌≡◌, ◌≤◌, ◌<◌, ℕ, zero, suc, ◌+◌, ◌*◌, ◌^◌, max, min, List, [], ◌∷◌, ◌++◌, length, map}
use Rattle.std.proofs.Common.{take, get_or, Some, sym, ap, ◌∙◌, arith, inl, inr, length-append}
use Rattle.std.specs.Prelude.{slice_get}
use Rattle.std.specs.List.{sum_by}
use Rattle.std.proofs.lemmas.Bool.{cases_lt}
use Rattle.std.proofs.lemmas.List.{map-append, take_more}
use Rattle.std.proofs.lemmas.List.Sums.{sum_by-le}
use Rattle.std.proofs.lemmas.Option.{same_Some}
use Rattle.pp_list.specs.Joined.{joined}
use Rattle.pp_prog.specs.declared.sort.Sort.{Sort}
use Rattle.pp_prog.specs.declared.sort.Sort.TheVariants as sort
use Rattle.pp_prog.specs.declared.types.Ctor.{Ctor}
use Rattle.pp_prog.specs.declared.types.TypeTable.{TypeTable}
use Rattle.pp_prog.specs.Sizes.{by_sort, flat}
use Rattle.pp_prog.specs.Values.{greatest}
use Rattle.pp_list.proofs.Joined.{joined_push}
use Rattle.pp_prog.proofs.Values.{greatest_push}
use Rattle.pp_steps.specs.declared.step.Step.{Step}
use Rattle.pp_steps.specs.declared.step.Step.TheVariants as steps
use Rattle.pp_steps.specs.Sorted.{Sorts}
use Rattle.pp_guess_values.specs.NamedGuess.{IsShort, all_looked_at, fields_at, looked_at}
use Rattle.pp_symbolic.specs.Naming.{count_fields, more_than_named, most_fields}
use Rattle.pp_symbolic.proofs.FlatFields.{fields_flat}

-- ---- the widest constructor

-- as many fields as the first constructors have at most
abbrev pub most_of : List Ctor → ℕ → ℕ
most_of ks i = greatest (map count_fields (take i ks))

pub most_more : (ks : List Ctor) (i : ℕ) (k : Ctor) → i < length ks → k ≡ get_or ks i k
    → most_of ks (i + 1) ≡ max (most_of ks i) (count_fields k)
most_more ks i k lt is =
    ap (λ (l : List Ctor). greatest (map count_fields l)) (take_more ks i k lt)
    ∙ ap greatest (map-append count_fields (take i ks) (get_or ks i k ∷ []))
    ∙ greatest_push (map count_fields (take i ks)) (count_fields (get_or ks i k))
    ∙ ap (λ (c : Ctor). max (most_of ks i) (count_fields c)) (sym is)

most_has : (ks : List Ctor) (i : ℕ) (k : Ctor) → slice_get ks i ≡ Some k
    → count_fields k ≤ greatest (map count_fields ks)
most_has [] i k at = cc
most_has (c ∷ ks) zero k at = let same = ap count_fields (same_Some c k at) in omega arith
most_has (c ∷ ks) (suc i) k at = let rest = most_has ks i k at in omega arith

-- ---- looks

looks_push : (ss : List Step) (s : Step)
    → length (all_looked_at (ss ++ s ∷ [])) ≡ length (all_looked_at ss) + length (looked_at s)
looks_push ss s =
    ap length (ap joined (map-append looked_at ss (s ∷ [])) ∙ joined_push (map looked_at ss) (looked_at s))
    ∙ length-append (all_looked_at ss) (looked_at s)

one_look : (s : Step) → length (looked_at s) ≤ 1
one_look (steps.Open s) = omega arith
one_look (steps.Int z) = omega arith
one_look (steps.Bool b) = omega arith
one_look (steps.Not a) = omega arith
one_look (steps.Both a b) = omega arith
one_look (steps.Choose c a b) = omega arith
one_look (steps.Unary op a) = omega arith
one_look (steps.Binary op a b) = omega arith
one_look (steps.Construct c fields) = omega arith
one_look (steps.IsCtor c n a) = omega arith
one_look (steps.CtorField c i a) = omega arith
one_look (steps.Field a i) = omega arith
one_look (steps.IsAlike a b) = omega arith
one_look (steps.GoesDown a b) = omega arith
one_look (steps.HasAnswer c) = omega arith
one_look (steps.Answer c) = omega arith

-- so many looks are in the first steps, at most one in each
pub record AreLooks (ss : List Step) (i count : ℕ) : Type 0 where
  pub is : count ≡ length (all_looked_at (take i ss))
  pub few : count ≤ i

pub looks_more : (ss : List Step) (i count one : ℕ) (s : Step) → AreLooks ss i count → i < length ss
    → s ≡ get_or ss i s → one ≡ length (looked_at s) → AreLooks ss (i + 1) (count + one)
looks_more ss i count one s now lt is own = record {
  is =
      let more = ap (λ (l : List Step). length (all_looked_at l)) (take_more ss i s lt) in
      let push = looks_push (take i ss) (get_or ss i s) in
      let same = ap (λ (x : Step). length (looked_at x)) is in
      let before = now.is in
      omega (arith, more, push, same, before, own);
  few = let most = one_look s in let before = now.few in omega (arith, most, before, own);
}

-- ---- names

within_limit : (steps sum looks limit : ℕ) → sum ≤ looks → 2 * steps + looks + 1 < 2 ^ 30
    → min (2 * steps + looks + 1) (2 ^ 30) ≤ limit → 2 * steps + sum < limit
within_limit steps sum looks limit fewer low le = omega (arith, fewer, low, le)

at_limit : (all more limit : ℕ) → all < 2 ^ 30 → 2 ^ 30 ≤ more → min more (2 ^ 30) ≤ limit → all < limit
at_limit all more limit few high le = omega (arith, few, high, le)

-- as many names as the domain before could have had are enough
pub room_for : (values named before after : ℕ) → values ≡ min named (2 ^ 30) → before ≡ 2 ^ 30
    → (values ≤ before → values ≤ after) → min named (2 ^ 30) ≤ after
room_for values named before after is most told =
    let le = told (omega (arith, is, most)) in omega (arith, is, le)

-- a domain with names for so many values has enough for what has to be named
module _ (types : TypeTable) (σ : Sorts) (ss : List Step) (limit : ℕ) where
  fields_most : (s : Sort) → by_sort 0 0 (λ d. most_fields types) s ≤ most_fields types
  fields_most sort.Int = omega arith
  fields_most sort.Bool = omega arith
  fields_most (sort.Tree d) = omega arith

  fields_sum : sum_by (fields_at (λ d. most_fields types) σ) (all_looked_at ss)
      ≤ most_fields types * length (all_looked_at ss)
  fields_sum =
      let sum = sum_by-le (fields_at (λ d. most_fields types) σ) (most_fields types) (all_looked_at ss)
      (λ i d lt. fields_most (σ (get_or (all_looked_at ss) i d))) in
      omega (arith, sum)

  pub names_short : 2 * length ss + sum_by (fields_at (flat types) σ) (all_looked_at ss) < 2 ^ 30
      → more_than_named types ss ≤ limit → IsShort types σ ss limit
  names_short few le =
      elim (cases_lt (2 * length ss + most_fields types * length (all_looked_at ss) + 1) (2 ^ 30)) [
        | inl low ↦ record {
          most = λ d. most_fields types;
          fields = λ c k at. most_has types.ctors c.0 k at;
          few = within_limit (length ss) _ _ limit fields_sum low le;
        }
        | inr high ↦ record {
          most = flat types;
          fields = λ c k at. fields_flat types c.0 k at;
          few = at_limit _ _ limit few high le;
        }
      ]

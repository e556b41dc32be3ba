-- Totals of what was counted, cut at the greatest number.
use Rattle.std.proofs.Common.{◌≡◌, ◌<◌, ◌≤◌, ◌+◌, ◌-◌, ◌*◌, ℕ, zero, suc, List, [], ◌∷◌, length, replicate, inl, inr}
use Rattle.std.proofs.Common.{Some, None, slice_get, refl, sym, ap, ◌∙◌, arith, add-one, nat_eq, Bool}
use Rattle.std.proofs.Math.Nat.{le-div_iff_mul-le, mul_comm, mul-le-mul_left}
use Rattle.std.proofs.lemmas.Bool.Decides.{eqb_tells, leb_tells}
use Rattle.std.proofs.lemmas.List.{length-replicate}
use Rattle.pp_prog.specs.declared.expr.Function.{Function}
use Rattle.pp_prog.specs.declared.types.TypeTable.{TypeTable}
use Rattle.pp_estimate.specs.declared.counts.Counts.{Counts}
use Rattle.pp_estimate.specs.Counted.{add_at, count_one, counted, counts_of, number_at, uncounted}
use Rattle.pp_estimate.specs.Cut.{cut, top}
use Rattle.pp_estimate.specs.Estimates.{by_calls, by_looks, by_pairs, all_looks, flat_of, instances, pairs, sum_below}
use Rattle.pp_estimate.specs.Estimates.{widths_at}
use Rattle.pp_estimate.specs.Events.{Event, called, calls, compare, compares, cost, look, looks, one_if, work}
use Rattle.pp_estimate.proofs.Merged.{add_at_length}
use Rattle.pp_estimate.proofs.Parts.{cut_times}

pub number_none : (xs : List ℕ) (i : ℕ) → slice_get xs i ≡ None → number_at xs i ≡ 0
number_none [] i e = refl
number_none (x ∷ xs) zero e = let no : Some x ≡ None = e in cc
number_none (x ∷ xs) (suc i) e = number_none xs i e

pub number_some : (xs : List ℕ) (i n : ℕ) → slice_get xs i ≡ Some n → number_at xs i ≡ n
number_some [] i n e = let no : None ≡ Some n = e in cc
number_some (x ∷ xs) zero n e = let both : Some x ≡ Some n = e in cc
number_some (x ∷ xs) (suc i) n e = number_some xs i n e

-- a product of two numbers that were cut
pub cut_both : (a b : ℕ) → cut (cut a * cut b) ≡ cut (a * b)
cut_both a b = cut_times a (cut b) ∙ ap cut (mul_comm a (cut b)) ∙ cut_times b a ∙ ap cut (mul_comm b a)

-- a number times a weight
pub weighed : (n k p q flat m w seen part : ℕ) → flat ≡ cut k → m ≡ cut (flat * p) → w ≡ cut (m + q) → seen ≡ n
    → part ≡ cut (seen * w) → part ≡ cut (n * (q + p * k))
weighed n k p q flat m w seen part fe me we se e =
    let inner : m ≡ cut (k * p) = me ∙ ap (λ (z : ℕ). cut (z * p)) fe ∙ cut_times k p in
    let turned : k * p ≡ p * k = mul_comm k p in
    let w_is : w ≡ cut (q + p * k) = omega (arith, we, inner, turned) in
    e ∙ ap (λ (z : ℕ). cut (z * w)) se ∙ ap (λ (z : ℕ). cut (n * z)) w_is ∙ ap cut (mul_comm n (cut (q + p * k)))
    ∙ cut_times (q + p * k) n ∙ ap cut (mul_comm (q + p * k) n)

-- one number more
pub sum_more : (f : ℕ → ℕ) (i total part next : ℕ) → total ≡ cut (sum_below i f) → part ≡ cut (f i)
    → next ≡ cut (total + part) → next ≡ cut (sum_below (i + 1) f)
sum_more f i total part next t p e =
    let all : sum_below (suc i) f ≡ sum_below i f + f i = refl in
    let same : next ≡ cut (sum_below (suc i) f) = omega (arith, t, p, e) in
    rw add-one same

-- sums of numbers that are the same once they are cut
sums_agree : (f g : ℕ → ℕ) (n : ℕ) → ((d : ℕ) → d < n → cut (f d) ≡ cut (g d))
    → cut (sum_below n f) ≡ cut (sum_below n g)
sums_agree f g zero same = refl
sums_agree f g (suc n) same =
    let before = sums_agree f g n (λ d lt. same d (omega arith)) in
    let here = same n (omega arith) in
    omega (arith, before, here)

pairs_high : (k : ℕ) → top < suc k → top ≤ pairs k
pairs_high k lt =
    let much : 2 ≤ k - 1 = omega (arith, lt) in
    let double = mul-le-mul_left {m = 2} {n = k - 1} k much in
    let enough : top * 2 ≤ k * (k - 1) = omega (arith, double, lt) in
    (le-div_iff_mul-le {k = 2} {x = top} {y = k * (k - 1)} (omega arith)).1 enough

pub cut_pairs : (k : ℕ) → cut (pairs (cut k)) ≡ cut (pairs k)
cut_pairs k = elim (leb_tells top k) [
  | inl high ↦
      let full : cut k ≡ top = (let h = high.1 in omega (arith, h)) in
      let a = pairs_high top (omega arith) in
      let b = pairs_high k (let h = high.1 in omega (arith, h)) in
      let left : cut (pairs top) ≡ top = omega (arith, a) in
      let right : cut (pairs k) ≡ top = omega (arith, b) in
      ap (λ (n : ℕ). cut (pairs n)) full ∙ left ∙ sym right
  | inr low ↦ let same : cut k ≡ k = (let h = low.1 in omega (arith, h)) in ap (λ (n : ℕ). cut (pairs n)) same
]

add_here : (xs : List ℕ) (i : ℕ) → i < length xs → number_at (add_at xs i 1) i ≡ cut (number_at xs i + 1)
add_here [] i lt = absurd (omega arith)
add_here (x ∷ xs) zero lt = refl
add_here (x ∷ xs) (suc i) lt = add_here xs i (omega arith)

add_elsewhere : (xs : List ℕ) (i d : ℕ) → (i ≡ d → ⊥) → number_at (add_at xs i 1) d ≡ number_at xs d
add_elsewhere [] i d ne = refl
add_elsewhere (x ∷ xs) zero zero ne = absurd (ne refl)
add_elsewhere (x ∷ xs) zero (suc d) ne = refl
add_elsewhere (x ∷ xs) (suc i) zero ne = refl
add_elsewhere (x ∷ xs) (suc i) (suc d) ne = add_elsewhere xs i d (λ e. ne (ap suc e))

add_number : (xs : List ℕ) (i d : ℕ) → d < length xs → number_at xs d ≤ top
    → number_at (add_at xs i 1) d ≡ cut (number_at xs d + one_if (nat_eq i d))
add_number xs i d lt low = elim (eqb_tells i d) [
  | inl e ↦
      let here : number_at (add_at xs d 1) d ≡ cut (number_at xs d + 1) = add_here xs d lt in
      ap (λ (k : ℕ). number_at (add_at xs k 1) d) e.1 ∙ here
      ∙ ap (λ (b : Bool). cut (number_at xs d + one_if b)) (sym e.0)
  | inr ne ↦
      let same : number_at xs d ≡ cut (number_at xs d + 0) = omega (arith, low) in
      add_elsewhere xs i d ne.1 ∙ same ∙ ap (λ (b : Bool). cut (number_at xs d + one_if b)) (sym ne.0)
]

looks_more : (c : Counts) (es : List Event) (d : ℕ) → d < length c.looks → number_at c.looks d ≤ top
    → number_at (counted c es).looks d ≡ cut (number_at c.looks d + looks es d)
looks_more c [] d lt low = omega (arith, low)
looks_more c (work w ∷ es) d lt low = let more = looks_more (count_one c (work w)) es d lt low in omega (arith, more)
looks_more c (called g ∷ es) d lt low = let more = looks_more (count_one c (called g)) es d lt low in omega
    (arith, more)
looks_more c (compare ∷ es) d lt low = let more = looks_more (count_one c compare) es d lt low in omega (arith, more)
looks_more c (look x ∷ es) d lt low =
    let one = add_number c.looks x.0 d lt low in
    let long = add_at_length c.looks x.0 1 in
    let more = looks_more (count_one c (look x)) es d (omega (arith, lt, long)) (omega (arith, one)) in
    omega (arith, more, one)

calls_more : (c : Counts) (es : List Event) (d : ℕ) → d < length c.calls → number_at c.calls d ≤ top
    → number_at (counted c es).calls d ≡ cut (number_at c.calls d + calls es d)
calls_more c [] d lt low = omega (arith, low)
calls_more c (work w ∷ es) d lt low = let more = calls_more (count_one c (work w)) es d lt low in omega (arith, more)
calls_more c (look x ∷ es) d lt low = let more = calls_more (count_one c (look x)) es d lt low in omega (arith, more)
calls_more c (compare ∷ es) d lt low = let more = calls_more (count_one c compare) es d lt low in omega (arith, more)
calls_more c (called g ∷ es) d lt low =
    let one = add_number c.calls g.0 d lt low in
    let long = add_at_length c.calls g.0 1 in
    let more = calls_more (count_one c (called g)) es d (omega (arith, lt, long)) (omega (arith, one)) in
    omega (arith, more, one)

compares_more : (c : Counts) (es : List Event) → c.compares ≤ top
    → (counted c es).compares ≡ cut (c.compares + compares es)
compares_more c [] low = omega (arith, low)
compares_more c (work w ∷ es) low = let more = compares_more (count_one c (work w)) es low in omega (arith, more)
compares_more c (look x ∷ es) low = let more = compares_more (count_one c (look x)) es low in omega (arith, more)
compares_more c (called g ∷ es) low = let more = compares_more (count_one c (called g)) es low in omega (arith, more)
compares_more c (compare ∷ es) low = let more = compares_more (count_one c compare) es (omega arith) in omega
    (arith, more)

work_more : (c : Counts) (es : List Event) → c.work ≤ top → (counted c es).work ≡ cut (c.work + cost es)
work_more c [] low = omega (arith, low)
work_more c (work w ∷ es) low = let more = work_more (count_one c (work w)) es (omega arith) in omega (arith, more)
work_more c (look x ∷ es) low = let more = work_more (count_one c (look x)) es low in omega (arith, more)
work_more c (called g ∷ es) low = let more = work_more (count_one c (called g)) es low in omega (arith, more)
work_more c (compare ∷ es) low = let more = work_more (count_one c compare) es low in omega (arith, more)

number_zeros : (n d : ℕ) → number_at (replicate n 0) d ≡ 0
number_zeros zero d = refl
number_zeros (suc n) zero = refl
number_zeros (suc n) (suc d) = number_zeros n d

module _ (types : TypeTable) (fs : List Function) (es : List Event) where
  abbrev c : Counts
  c = counts_of types fs es

  looks_are : (d : ℕ) → d < length types.datatypes → number_at c.looks d ≡ cut (looks es d)
  looks_are d lt =
      let none = number_zeros (length types.datatypes) d in
      let long = length-replicate {A = ℕ} (length types.datatypes) 0 in
      let all = looks_more (uncounted (length types.datatypes) (length fs)) es d (omega (arith, lt, long))
      (omega (arith, none)) in
      omega (arith, all, none)

  calls_are : (g : ℕ) → g < length fs → number_at c.calls g ≡ cut (calls es g)
  calls_are g lt =
      let none = number_zeros (length fs) g in
      let long = length-replicate {A = ℕ} (length fs) 0 in
      let all = calls_more (uncounted (length types.datatypes) (length fs)) es g (omega (arith, lt, long))
      (omega (arith, none)) in
      omega (arith, all, none)

  compares_are : c.compares ≡ cut (compares es)
  compares_are = let all = compares_more (uncounted (length types.datatypes) (length fs)) es (omega arith) in omega
      (arith, all)

  pub work_is : c.work ≡ cut (cost es)
  work_is = let all = work_more (uncounted (length types.datatypes) (length fs)) es (omega arith) in omega (arith, all)

  looks_part : cut (sum_below (length types.datatypes) (λ (d : ℕ). number_at c.looks d * (256 + 8 * flat_of types d)))
      ≡ cut (by_looks types fs es)
  looks_part = sums_agree _ _ (length types.datatypes)
      (λ d lt. ap (λ (n : ℕ). cut (n * (256 + 8 * flat_of types d))) (looks_are d lt)
      ∙ cut_times (looks es d) (256 + 8 * flat_of types d))

  pairs_agree : (n k w : ℕ) → n ≡ cut k → cut (pairs n * w) ≡ cut (pairs k * w)
  pairs_agree n k w e =
      ap (λ (z : ℕ). cut (pairs z * w)) e ∙ sym (cut_times (pairs (cut k)) w)
      ∙ ap (λ (z : ℕ). cut (z * w)) (cut_pairs k) ∙ cut_times (pairs k) w

  pairs_part : cut (sum_below (length types.datatypes)
      (λ (d : ℕ). pairs (number_at c.looks d) * (64 + 4 * flat_of types d))) ≡ cut (by_pairs types fs es)
  pairs_part = sums_agree _ _ (length types.datatypes)
      (λ d lt. pairs_agree (number_at c.looks d) (looks es d) (64 + 4 * flat_of types d) (looks_are d lt))

  calls_part : cut (sum_below (length fs) (λ (g : ℕ). pairs (number_at c.calls g)
      * (64 + 4 * widths_at (slice_get fs g)))) ≡ cut (by_calls types fs es)
  calls_part = sums_agree _ _ (length fs) (λ g lt. pairs_agree (number_at c.calls g) (calls es g)
      (64 + 4 * widths_at (slice_get fs g)) (calls_are g lt))

  all_part : cut (sum_below (length types.datatypes) (number_at c.looks)) ≡ cut (all_looks types fs es)
  all_part = sums_agree _ _ (length types.datatypes) (λ d lt. ap cut (looks_are d lt) ∙ cut_cut (looks es d))
    where
      cut_cut : (n : ℕ) → cut (cut n) ≡ cut n
      cut_cut n = omega arith

  -- the instances, from the parts that were counted
  pub instances_are : (counts : Counts) (l p k a m q result : ℕ) → counts ≡ c
      → l ≡ cut (sum_below (length types.datatypes) (λ (d : ℕ). number_at counts.looks d * (256 + 8 * flat_of types d)))
      → p ≡ cut (sum_below (length types.datatypes)
      (λ (d : ℕ). pairs (number_at counts.looks d) * (64 + 4 * flat_of types d)))
      → k ≡ cut (sum_below (length fs) (λ (g : ℕ). pairs (number_at counts.calls g)
      * (64 + 4 * widths_at (slice_get fs g)))) → a ≡ cut (sum_below (length types.datatypes) (number_at counts.looks))
      → m ≡ cut (counts.compares * 128) → q ≡ cut (m * a) → result ≡ cut (cut (cut (l + p) + k) + q)
      → result ≡ cut (instances types fs es)
  instances_are counts l p k a m q result is le pe ke ae me qe e =
      let l_is : l ≡ cut (by_looks types fs es) = le
      ∙ ap (λ (z : Counts). cut (sum_below (length types.datatypes)
      (λ (d : ℕ). number_at z.looks d * (256 + 8 * flat_of types d)))) is ∙ looks_part in
      let p_is : p ≡ cut (by_pairs types fs es) = pe
      ∙ ap (λ (z : Counts). cut (sum_below (length types.datatypes)
      (λ (d : ℕ). pairs (number_at z.looks d) * (64 + 4 * flat_of types d)))) is ∙ pairs_part in
      let k_is : k ≡ cut (by_calls types fs es) = ke
      ∙ ap (λ (z : Counts). cut (sum_below (length fs)
      (λ (g : ℕ). pairs (number_at z.calls g) * (64 + 4 * widths_at (slice_get fs g))))) is ∙ calls_part in
      let a_is : a ≡ cut (all_looks types fs es) = ae
      ∙ ap (λ (z : Counts). cut (sum_below (length types.datatypes) (number_at z.looks))) is ∙ all_part in
      let m_is : m ≡ cut (compares es * 128) = me ∙ ap (λ (z : Counts). cut (z.compares * 128)) is
      ∙ ap (λ (n : ℕ). cut (n * 128)) compares_are ∙ cut_times (compares es) 128 in
      let q_is : q ≡ cut (compares es * 128 * all_looks types fs es) = qe ∙ ap (λ (n : ℕ). cut (n * a)) m_is
      ∙ ap (λ (n : ℕ). cut (cut (compares es * 128) * n)) a_is
      ∙ cut_both (compares es * 128) (all_looks types fs es) in
      four_cut l p k q result _ _ _ _ l_is p_is k_is q_is e
    where
      four_cut : (l p k q r l2 p2 k2 q2 : ℕ) → l ≡ cut l2 → p ≡ cut p2 → k ≡ cut k2 → q ≡ cut q2
          → r ≡ cut (cut (cut (l + p) + k) + q) → r ≡ cut (l2 + p2 + k2 + q2)
      four_cut l p k q r l2 p2 k2 q2 a b c d e = omega (arith, a, b, c, d, e)

-- What looks and comparisons take, one after another, is what the estimate takes for them.
use Rattle.std.proofs.Common.{◌≡◌, ℕ, zero, suc, ◌+◌, ◌*◌, ◌-◌, ◌/◌, ◌<◌, ◌≤◌, ◌⊎◌, inl, inr, Bool, true, false}
use Rattle.std.proofs.Common.{if◌then◌else◌}
use Rattle.std.proofs.Common.{List, ◌∷◌, ◌++◌, length, refl, sym, ap, ◌∙◌, subst, arith}
use Rattle.std.proofs.lemmas.Bool.Decides.{nat_tests}
use Rattle.std.proofs.Math.Nat.{add-mul, eq-or-lt_of_le, mul-suc, suc-mul, zero-add}
use Rattle.std.specs.Prelude.{nat_eq}
use Rattle.pp_prog.specs.declared.id.DataId.{DataId}
use Rattle.pp_prog.specs.declared.sort.Sort.{Sort}
use Rattle.pp_prog.specs.declared.sort.Sort.TheVariants as sort
use Rattle.pp_prog.specs.declared.types.TypeTable.{TypeTable}
use Rattle.pp_prog.specs.Sizes.{by_sort}
use Rattle.pp_domain.specs.Allowance.{look_gates, times}
use Rattle.pp_estimate.specs.Estimates.{flat_of, pairs, sum_below}
use Rattle.pp_estimate_laws.proofs.Numbers.{below_grows, le_same, times_grow}
use Rattle.pp_guess_gates.specs.Measure.{datatype_in}

-- ---- sums and pairs

-- a sum of which one part is greater by so much
pub sum_more : (n : ℕ) (f h : ℕ → ℕ) (j x : ℕ) → j < n → ((i : ℕ) → f i ≤ h i) → f j + x ≤ h j
    → sum_below n f + x ≤ sum_below n h
sum_more zero f h j x less each more = absurd (omega arith)
sum_more (suc n) f h j x less each more = by (λ l. sum_more n f h j x l each more) (eq-or-lt_of_le (low j n less))
  where
    low : (j n : ℕ) → j < suc n → j ≤ n
    low j n h = omega arith

    by : (j < n → sum_below n f + x ≤ sum_below n h) → (j ≡ n) ⊎ (j < n)
        → sum_below (suc n) f + x ≤ sum_below (suc n) h
    by before (inl e) =
        let rest = below_grows n f h each in let here = subst (λ i. f i + x ≤ h i) e more in omega arith
    by before (inr l) = let rest = before l in let here = each n in omega arith

pub pairs_next : (k : ℕ) → pairs (suc k) ≡ pairs k + k
pairs_next zero = refl
pairs_next (suc k) =
    let a : suc (suc k) - 1 ≡ suc k = omega arith in
    let b : suc k - 1 ≡ k = omega arith in
    let one = ap (λ i. suc (suc k) * i / 2) a in
    let two = ap (λ i. suc k * i / 2) b in
    one ∙ halves ∙ ap (λ i. i + suc k) (sym two)
  where
    half : (n m : ℕ) → (n + 2 * m) / 2 ≡ n / 2 + m
    half n m = omega arith

    halves : suc (suc k) * suc k / 2 ≡ suc k * k / 2 + suc k
    halves =
        let c = suc-mul (suc k) (suc k) in
        let d = mul-suc (suc k) k in
        let e : suc (suc k) * suc k ≡ suc k * k + 2 * suc k = omega arith in
        ap (λ n. n / 2) e ∙ half (suc k * k) (suc k)

pub pairs_grow : (a b : ℕ) → a ≤ b → pairs a ≤ pairs b
pairs_grow a zero le = let e : a ≡ 0 = omega arith in subst (λ n. pairs n ≤ pairs 0) (sym e) (le_same (pairs 0))
pairs_grow a (suc b) le = by (λ l. pairs_grow a b (low a b l)) (eq-or-lt_of_le le)
  where
    low : (a b : ℕ) → a < suc b → a ≤ b
    low a b h = omega arith

    by : (a < suc b → pairs a ≤ pairs b) → (a ≡ suc b) ⊎ (a < suc b) → pairs a ≤ pairs (suc b)
    by before (inl e) = subst (λ n. pairs n ≤ pairs (suc b)) (sym e) (le_same (pairs (suc b)))
    by before (inr l) = let rest = before l in let next = pairs_next b in omega arith

-- ---- looks

abbrev pub data_number : ℕ → DataId
data_number d = record { 0 = d }

same_number : (n : ℕ) → nat_eq n n ≡ true
same_number n = grind (arith, nat_tests)

pub times_more : (i : ℕ) (d : DataId) (looks : List DataId)
    → times (data_number i) looks ≤ times (data_number i) (d ∷ looks)
times_more i d looks = by (nat_eq d.0 i) (times (data_number i) looks)
  where
    by : (b : Bool) (n : ℕ) → n ≤ (if b then 1 + n else n)
    by true n = omega arith
    by false n = omega arith

pub times_here : (d : DataId) (looks : List DataId)
    → times (data_number d.0) (d ∷ looks) ≡ suc (times (data_number d.0) looks)
times_here d looks = by (nat_eq d.0 d.0) (times (data_number d.0) looks) (same_number d.0)
  where
    by : (b : Bool) (n : ℕ) → b ≡ true → (if b then 1 + n else n) ≡ suc n
    by true n e = omega arith
    by false n e = cc

module _ (types : TypeTable) where
  abbrev count : ℕ
  count = length types.datatypes

  -- what the estimate takes for these looks, for each pair of them at one datatype, and for so many comparisons
  abbrev pub looks_part : List DataId → ℕ
  looks_part looks = sum_below count (λ d. times (data_number d) looks * (256 + 8 * flat_of types d))

  abbrev pub pairs_part : List DataId → ℕ
  pairs_part looks = sum_below count (λ d. pairs (times (data_number d) looks) * (64 + 4 * flat_of types d))

  abbrev pub looks_worth : List DataId → ℕ → ℕ
  looks_worth looks compares = looks_part looks + pairs_part looks + compares * 128 * length looks

  one_look : (d : DataId) (looks : List DataId) → d.0 < count
      → looks_part looks + (256 + 8 * flat_of types d.0) ≤ looks_part (d ∷ looks)
  one_look d looks less =
      sum_more count (λ i. times (data_number i) looks * (256 + 8 * flat_of types i))
      (λ i. times (data_number i) (d ∷ looks) * (256 + 8 * flat_of types i)) d.0 (256 + 8 * flat_of types d.0) less
      (λ i. times_grow _ _ _ _ (times_more i d looks) (le_same (256 + 8 * flat_of types i)))
      (let at = ap (λ n. n * (256 + 8 * flat_of types d.0)) (times_here d looks) in
      let e = suc-mul (times (data_number d.0) looks) (256 + 8 * flat_of types d.0) in omega arith)

  more_pairs : (d : DataId) (looks : List DataId) → d.0 < count
      → pairs_part looks + times (data_number d.0) looks * (64 + 4 * flat_of types d.0) ≤ pairs_part (d ∷ looks)
  more_pairs d looks less =
      let n = times (data_number d.0) looks in
      let most = 64 + 4 * flat_of types d.0 in
      sum_more count (λ i. pairs (times (data_number i) looks) * (64 + 4 * flat_of types i))
      (λ i. pairs (times (data_number i) (d ∷ looks)) * (64 + 4 * flat_of types i)) d.0 (n * most) less
      (λ i. times_grow _ _ _ _ (pairs_grow _ _ (times_more i d looks)) (le_same (64 + 4 * flat_of types i)))
      (let at = ap (λ i. pairs i * most) (times_here d looks) in
      let e = ap (λ i. i * most) (pairs_next n) in
      let f = add-mul (pairs n) n most in omega arith)

  pub look_more : (d : DataId) (looks : List DataId) (compares : ℕ) → d.0 < count
      → look_gates types looks compares d + looks_worth looks compares ≤ looks_worth (d ∷ looks) compares
  look_more d looks compares less =
      let one = one_look d looks less in
      let two = more_pairs d looks less in
      let three : compares * 128 * suc (length looks) ≡ 128 * compares + compares * 128 * length looks =
      mul-suc (compares * 128) (length looks) ∙ turned compares (compares * 128 * length looks) in
      omega arith
    where
      turned : (c n : ℕ) → n + c * 128 ≡ 128 * c + n
      turned c n = omega arith

  pub look_fits : (s : Sort) (looks : List DataId) (compares : ℕ) → ((d : DataId) → s ≡ sort.Tree d → d.0 < count)
      → by_sort 0 0 (look_gates types looks compares) s + looks_worth looks compares
      ≤ looks_worth (datatype_in s ++ looks) compares
  look_fits sort.Int looks compares there = omega arith
  look_fits sort.Bool looks compares there = omega arith
  look_fits (sort.Tree d) looks compares there = look_more d looks compares (there d refl)

  pub comparison_fits : (s : Sort) (looks : List DataId) (compares : ℕ)
      → by_sort 1024 0 (λ d. 194 + 128 * length looks) s + looks_worth looks compares
      ≤ by_sort 1024 0 (λ d. 194) s + looks_worth looks (by_sort 0 0 (λ d. 1) s + compares)
  comparison_fits sort.Int looks compares = let e = ap (looks_worth looks) (zero-add compares) in omega arith
  comparison_fits sort.Bool looks compares = let e = ap (looks_worth looks) (zero-add compares) in omega arith
  comparison_fits (sort.Tree d) looks compares =
      let e : (1 + compares) * 128 * length looks ≡ 128 * length looks + compares * 128 * length looks =
      ap (λ n. n * length looks) (first compares) ∙ add-mul 128 (compares * 128) (length looks) in
      omega arith
    where
      first : (c : ℕ) → (1 + c) * 128 ≡ 128 + c * 128
      first c = omega arith

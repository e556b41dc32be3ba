-- Ranks: those of different values of the list are different, and that of a field is lower.
use Rattle.std.proofs.Common.{◌≡◌, ℕ, zero, suc, ◌+◌, ◌<◌, ◌≤◌, Bool, true, false, ◌&&◌, ◌||◌, nat_lt, nat_eq}
use Rattle.std.proofs.Common.{if◌then◌else◌, List, [], ◌∷◌, length, map, Some, refl, sym, ap, ◌∙◌, subst, arith, inl}
use Rattle.std.proofs.Common.{inr}
use Rattle.std.proofs.Common.{◌⊎◌, ⊎_elim, slice_get}
use Rattle.std.proofs.lemmas.Bool.{and_from, and_parts, both_ways, or_left, or_right, cases_Bool, ltb-true, lt-ltb}
use Rattle.std.proofs.lemmas.Bool.{eqb-true, eq-eqb, cases_lt}
use Rattle.std.proofs.lemmas.Option.{slice_get-get_or}
use Rattle.pp_prog.specs.declared.value.Value.{Value}
use Rattle.pp_prog.specs.Values.{greatest, height}
use Rattle.pp_prog.proofs.Values.{height_of_tree}
use Rattle.pp_eval.specs.Equality.{equal}
use Rattle.pp_eval.proofs.Trees.{equal_same, equal_self}
use Rattle.pp_bits.specs.Number.{bit}
use Rattle.pp_bits.proofs.Numbers.{bit_small}
use Rattle.pp_named_order.specs.Order.{IsFieldIn}
use Rattle.pp_named_order.specs.Ranks.{place_of, comes_before, before, rank}

-- the value stands somewhere in the list
abbrev pub At : List Value → Value → Type 0
At xs v = (k : ℕ) × (slice_get xs k ≡ Some v)

-- height and place come before height and place
abbrev pub Lower : ℕ → ℕ → ℕ → ℕ → Type 0
Lower h i g j = (h < g) ⊎ ((h ≡ g) × (i < j))

or_told : (b c : Bool) → b || c ≡ true → (b ≡ true) ⊎ (c ≡ true)
or_told true c e = inl refl
or_told false c e = inr e

told : (h i g j : ℕ) → comes_before h i g j ≡ true → Lower h i g j
told h i g j e =
    elim (or_told (nat_lt h g) (nat_eq h g && nat_lt i j) e) [
      | inl a ↦ inl (ltb-true h g a)
      | inr b ↦ let p = and_parts (nat_eq h g) (nat_lt i j) b in inr (eqb-true h g p.0, ltb-true i j p.1)
    ]

tells : (h i g j : ℕ) → Lower h i g j → comes_before h i g j ≡ true
tells h i g j (inl lt) = or_left (nat_lt h g) (nat_eq h g && nat_lt i j) (lt-ltb h g lt)
tells h i g j (inr p) =
    or_right (nat_lt h g) (nat_eq h g && nat_lt i j)
    (and_from (nat_eq h g) (nat_lt i j) (eq-eqb h g p.0) (lt-ltb i j p.1))

lower_more : (h i g j k l : ℕ) → Lower h i g j → Lower g j k l → Lower h i k l
lower_more h i g j k l (inl a) (inl b) = inl (omega arith)
lower_more h i g j k l (inl a) (inr b) = inl (let e = b.0 in omega arith)
lower_more h i g j k l (inr a) (inl b) = inl (let e = a.0 in omega arith)
lower_more h i g j k l (inr a) (inr b) = inr (a.0 ∙ b.0, let x = a.1 in let y = b.1 in omega arith)

not_itself : (h i : ℕ) → comes_before h i h i ≡ false
not_itself h i = elim (cases_Bool (comes_before h i h i)) [
  | inl e ↦ absurd (⊎_elim (λ lt. omega arith) (λ p. let lt = p.1 in omega arith) (told h i h i e))
  | inr e ↦ e
]

bit_more : (b c : Bool) → (b ≡ true → c ≡ true) → bit b ≤ bit c
bit_more true true f = omega arith
bit_more true false f = let e = f refl in cc
bit_more false true f = omega arith
bit_more false false f = omega arith

before_short : (i g j : ℕ) (ws : List Value) → before i ws g j ≤ length ws
before_short i g j [] = omega arith
before_short i g j (w ∷ ws) =
    let one = bit_small (comes_before (height w) i g j) in
    let rest = before_short (suc i) g j ws in omega arith

before_more : (i g j k l : ℕ) (ws : List Value) → Lower g j k l → before i ws g j ≤ before i ws k l
before_more i g j k l [] lower = omega arith
before_more i g j k l (w ∷ ws) lower =
    let one = bit_more (comes_before (height w) i g j) (comes_before (height w) i k l)
    (λ e. tells (height w) i k l (lower_more (height w) i g j k l (told (height w) i g j e) lower)) in
    let rest = before_more (suc i) g j k l ws lower in omega arith

before_less : (i p k l m : ℕ) (w : Value) (ws : List Value) → slice_get ws m ≡ Some w → p ≡ i + m
    → Lower (height w) p k l → before i ws (height w) p < before i ws k l
before_less i p k l m w [] at e lower = cc
before_less i p k l zero w (x ∷ ws) at e lower =
    let same : x ≡ w = cc in
    let here : p ≡ i = omega arith in
    let none : bit (comes_before (height x) i (height w) p) ≡ 0 =
    ap bit (ap (λ v. comes_before (height v) i (height w) p) same
    ∙ ap (λ n. comes_before (height w) i (height w) n) here ∙ not_itself (height w) i) in
    let one : bit (comes_before (height x) i k l) ≡ 1 =
    ap bit (ap (λ v. comes_before (height v) i k l) same
    ∙ tells (height w) i k l (subst (λ n. Lower (height w) n k l) here lower)) in
    let rest = before_more (suc i) (height w) p k l ws lower in omega arith
before_less i p k l (suc m) w (x ∷ ws) at e lower =
    let one = bit_more (comes_before (height x) i (height w) p) (comes_before (height x) i k l)
    (λ c. tells (height x) i k l
    (lower_more (height x) i (height w) p k l (told (height x) i (height w) p c) lower)) in
    let rest = before_less (suc i) p k l m w ws at (omega arith) lower in omega arith

place_found : (v : Value) (vs : List Value) (k : ℕ) → slice_get vs k ≡ Some v
    → slice_get vs (place_of v vs) ≡ Some v
place_found v [] k at = cc
place_found v (w ∷ ws) k at = step (equal w v) refl k (λ j here. place_found v ws j here) at
  where
    step : (b : Bool) → equal w v ≡ b → (j : ℕ)
        → ((i : ℕ) → slice_get ws i ≡ Some v → slice_get ws (place_of v ws) ≡ Some v)
        → slice_get (w ∷ ws) j ≡ Some v → slice_get (w ∷ ws) (if b then 0 else suc (place_of v ws)) ≡ Some v
    step true e j rest here = ap Some (equal_same w v e)
    step false e zero rest here =
        absurd (both_ways (equal w v) e (subst (λ u. equal w u ≡ true) (same here) (equal_self w)))
      where
        same : Some w ≡ Some v → w ≡ v
        same h = cc
    step false e (suc j) rest here = rest j here

pub rank_short : (vs : List Value) (v : Value) → rank vs v ≤ length vs
rank_short vs v = before_short 0 (height v) (place_of v vs) vs

rank_less : (vs : List Value) (v w : Value) → At vs v → Lower (height v) (place_of v vs) (height w) (place_of w vs)
    → rank vs v < rank vs w
rank_less vs v w at lower =
    before_less 0 (place_of v vs) (height w) (place_of w vs) (place_of v vs) v vs
    (place_found v vs at.0 at.1) (omega arith) lower

-- one of the two comes first, or both stand at one place
pub rank_apart : (vs : List Value) (v w : Value) → At vs v → At vs w → rank vs v ≡ rank vs w → v ≡ w
rank_apart vs v w at to same = elim (three (height v) (height w)) [
  | inl lt ↦ absurd (let r = rank_less vs v w at (inl lt) in omega arith)
  | inr more ↦ elim more [
    | inl gt ↦ absurd (let r = rank_less vs w v to (inl gt) in omega arith)
    | inr high ↦ elim (three (place_of v vs) (place_of w vs)) [
      | inl lt ↦ absurd (let r = rank_less vs v w at (inr (high, lt)) in omega arith)
      | inr rest ↦ elim rest [
        | inl gt ↦ absurd (let r = rank_less vs w v to (inr (sym high, gt)) in omega arith)
        | inr here ↦ one (sym (place_found v vs at.0 at.1) ∙ ap (λ n. slice_get vs n) here ∙ place_found w vs to.0 to.1)
      ]
    ]
  ]
]
  where
    one : Some v ≡ Some w → v ≡ w
    one h = cc

    three : (m n : ℕ) → (m < n) ⊎ ((n < m) ⊎ (m ≡ n))
    three m n = elim (cases_lt m n) [
      | inl lt ↦ inl lt
      | inr ge ↦ elim (cases_lt n m) [ inl lt ↦ inr (inl lt) | inr le ↦ inr (inr (omega arith)) ]
    ]

greatest_has : (vs : List Value) (k : ℕ) (v : Value) → slice_get vs k ≡ Some v → height v ≤ greatest (map height vs)
greatest_has [] k v at = cc
greatest_has (w ∷ ws) zero v at = let same : w ≡ v = cc in let e = ap height same in omega arith
greatest_has (w ∷ ws) (suc k) v at = let rest = greatest_has ws k v at in omega arith

field_lower : (u v : Value) → IsFieldIn u v → height u < height v
field_lower u v is =
    let at = slice_get-get_or is.fields is.has.0 u is.has.1 ∙ ap Some is.has.2 in
    let low = greatest_has is.fields is.has.0 u at in
    let high = ap height is.is ∙ height_of_tree is.ctor is.fields in omega arith

pub field_rank : (vs : List Value) (u v : Value) → At vs u → IsFieldIn u v → rank vs u < rank vs v
field_rank vs u v at is = rank_less vs u v at (inl (field_lower u v is))

-- The value of digits, capped.
use Rattle.std.proofs.Common.{ℕ, ◌≡◌, ◌+◌, ◌*◌, ◌<◌, ◌≤◌, min, List, get_or, take, length, sym, ap, ◌∙◌, arith, inl}
use Rattle.std.proofs.Common.{inr}
use Rattle.std.proofs.Math.Nat.{min-eq_left, le-mul_of_pos_right, mul-le-mul_right}
use Rattle.std.proofs.lemmas.Bool.{cases_lt}
use Rattle.std.proofs.lemmas.List.Sums.{fold_more}
use Rattle.pp_tokens.specs.Numbers.{value, digit_of}

within : (base v d cap : ℕ) → v ≤ cap → min (min v cap * base + d) cap ≡ min (v * base + d) cap
within base v d cap le = ap (λ (k : ℕ). min (k * base + d) cap) (min-eq_left le)

beyond : (base v d cap : ℕ) → 1 ≤ base → cap ≤ v → min (min v cap * base + d) cap ≡ min (v * base + d) cap
beyond base v d cap some le =
    let low : cap ≤ cap * base = le-mul_of_pos_right cap (omega arith) in
    let high : cap * base ≤ v * base = mul-le-mul_right base le in
    let e : min v cap ≡ cap = omega arith in
    let f : min (cap * base + d) cap ≡ min (v * base + d) cap = omega arith in
    ap (λ (k : ℕ). min (k * base + d) cap) e ∙ f

capped_step : (base v d cap : ℕ) → 1 ≤ base → min (min v cap * base + d) cap ≡ min (v * base + d) cap
capped_step base v d cap some =
    elim (cases_lt v cap) [ inl lt ↦ within base v d cap (omega arith) | inr le ↦ beyond base v d cap some le ]

pub value_more : (base cap : ℕ) (ds : List ℕ) (i v : ℕ) → 1 ≤ base → i < length ds
    → v ≡ min (value base (take i ds)) cap
    → min (v * base + digit_of (get_or ds i 0)) cap ≡ min (value base (take (i + 1) ds)) cap
value_more base cap ds i v some lt is =
    ap (λ (k : ℕ). min (k * base + digit_of (get_or ds i 0)) cap) is
    ∙ capped_step base (value base (take i ds)) (digit_of (get_or ds i 0)) cap some
    ∙ ap (λ (k : ℕ). min k cap) (sym (fold_more (λ (a : ℕ) (d : ℕ). a * base + digit_of d) 0 ds i 0 lt))

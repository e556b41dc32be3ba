-- Products of integers.
use Rattle.std.proofs.Common.{◌≡◌, zero, suc, refl, sym, ap, ◌∙◌, arith}
use Rattle.std.proofs.lemmas.Int.{ints}
use Rattle.std.proofs.Math.IntN.{*ℤ_comm, suc_ℤ-*ℤ, suc_ℤ, zero-*ℤ}
use lib.IntN.{ℤ, pos, negsuc, ◌+ℤ◌, ◌*ℤ◌}

one_more : (a : ℤ) → a +ℤ pos 1 ≡ suc_ℤ a
one_more (pos n) = omega (arith, ints)
one_more (negsuc zero) = refl
one_more (negsuc (suc n)) = omega (arith, ints)

-- one more in a factor
more : (a b c : ℤ) → b ≡ a +ℤ pos 1 → b *ℤ c ≡ (a *ℤ c) +ℤ c
more a b c e =
    ap (λ z. z *ℤ c) (e ∙ one_more a) ∙ suc_ℤ-*ℤ a c

pub times_sum : (a b c : ℤ) → (a +ℤ b) *ℤ c ≡ (a *ℤ c) +ℤ (b *ℤ c)
times_sum a (pos zero) c =
    ap (λ z. z *ℤ c) {x = a +ℤ pos 0} {y = a} (omega (arith, ints)) ∙ omega (arith, ints, zero-*ℤ c)
times_sum a (pos (suc n)) c =
    let h = times_sum a (pos n) c in
    let f = more (a +ℤ pos n) (a +ℤ pos (suc n)) c (omega (arith, ints)) in
    let g = more (pos n) (pos (suc n)) c (omega (arith, ints)) in
    omega (arith, ints, f, g, h)
times_sum a (negsuc zero) c =
    let f = more (a +ℤ negsuc 0) a c (omega (arith, ints)) in
    let g = more (negsuc 0) (pos 0) c (omega (arith, ints)) in
    omega (arith, ints, f, g, zero-*ℤ c)
times_sum a (negsuc (suc n)) c =
    let h = times_sum a (negsuc n) c in
    let f = more (a +ℤ negsuc (suc n)) (a +ℤ negsuc n) c (omega (arith, ints)) in
    let g = more (negsuc (suc n)) (negsuc n) c (omega (arith, ints)) in
    omega (arith, ints, f, g, h)

pub times_times : (a b c : ℤ) → (a *ℤ b) *ℤ c ≡ a *ℤ (b *ℤ c)
times_times (pos zero) b c = ap (λ z. z *ℤ c) (zero-*ℤ b) ∙ zero-*ℤ c ∙ sym (zero-*ℤ (b *ℤ c))
times_times (pos (suc n)) b c =
    let h = times_times (pos n) b c in
    let f = ap (λ z. z *ℤ c) (more (pos n) (pos (suc n)) b (omega (arith, ints))) ∙ times_sum (pos n *ℤ b) b c in
    let g = more (pos n) (pos (suc n)) (b *ℤ c) (omega (arith, ints)) in
    omega (arith, ints, f, g, h)
times_times (negsuc zero) b c =
    let e : negsuc 0 *ℤ b +ℤ b ≡ pos 0 = omega (arith, ints) in
    let f = sym (times_sum (negsuc 0 *ℤ b) b c) ∙ ap (λ z. z *ℤ c) e ∙ zero-*ℤ c in
    let g = more (negsuc 0) (pos 0) (b *ℤ c) (omega (arith, ints)) in
    omega (arith, ints, f, g, zero-*ℤ (b *ℤ c))
times_times (negsuc (suc n)) b c =
    let h = times_times (negsuc n) b c in
    let f = ap (λ z. z *ℤ c) (more (negsuc (suc n)) (negsuc n) b (omega (arith, ints)))
    ∙ times_sum (negsuc (suc n) *ℤ b) b c in
    let g = more (negsuc (suc n)) (negsuc n) (b *ℤ c) (omega (arith, ints)) in
    omega (arith, ints, f, g, h)

-- a factor comes first
pub times_first : (a b c : ℤ) → a *ℤ (b *ℤ c) ≡ b *ℤ (a *ℤ c)
times_first a b c = sym (times_times a b c) ∙ ap (λ z. z *ℤ c) (*ℤ_comm a b) ∙ times_times b a c

pub sum_times : (a b c : ℤ) → a *ℤ (b +ℤ c) ≡ (a *ℤ b) +ℤ (a *ℤ c)
sum_times a b c =
    let f = times_sum b c a in
    let g = *ℤ_comm a (b +ℤ c) in
    let h = *ℤ_comm a b in
    let k = *ℤ_comm a c in
    omega (arith, ints, f, g, h, k)

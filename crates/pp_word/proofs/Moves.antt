-- How far a shift moves, and what it makes.
use Rattle.std.proofs.Common.{◌≡◌, ℕ, suc, ◌+◌, ◌-◌, ◌*◌, ◌/◌, ◌%◌, ◌^◌, ◌<◌, ◌≤◌, refl, sym, ap, ◌∙◌, subst, arith}
use Rattle.std.specs.Int.{Width, w8, w16, w32, w64, w128, int_wrap, cast_signed, cast_unsigned, int_shl, int_shr}
use Rattle.std.specs.Int.RustNames.{FitsSigned}
use Rattle.std.proofs.Math.Nat.{add-mul, div-add-mod', div-le_self, mod-eq_of_lt, mul_comm}
use Rattle.std.proofs.lemmas.Nat.{div_below, mod_below, pow_pos}
use Rattle.std.proofs.lemmas.Int.{ints, to_z-of_z}
use Rattle.pp_word.specs.Wrapping.{IsWord, WrapsTo}
use Rattle.pp_word.specs.Shifts.{IsDistance, IsFloor}
use Rattle.pp_word.proofs.Ranges.{IsWord-from_fits, fits_from_IsWord, cast_unsigned_below, halves}
use Rattle.pp_word.proofs.Wraps.{wrap_from, WrapsTo-int_wrap}
use lib.IntN.{ℤ, pos, negsuc, ◌+ℤ◌, ◌*ℤ◌, neg_ℤ}
use lib.Signed.{mag_shr, shr_z}
use mir.Val.{bits}
use mir.ValLaws.{sfits_le}

-- the number of words is a multiple of the number of their bits
blocks : (w : Width) → (c : ℕ) × (2 ^ bits w ≡ c * bits w)
blocks w8 = (2 ^ 5, refl)
blocks w16 = (2 ^ 12, refl)
blocks w32 = (2 ^ 27, refl)
blocks w64 = (2 ^ 58, refl)
blocks w128 = (2 ^ 121, refl)

bits_pos : (w : Width) → 0 < bits w
bits_pos w8 = omega arith
bits_pos w16 = omega arith
bits_pos w32 = omega arith
bits_pos w64 = omega arith
bits_pos w128 = omega arith

pub IsDistance-low_bits : (w : Width) (b : ℤ) → IsWord w b → IsDistance w b (cast_unsigned w b % bits w)
IsDistance-low_bits w (pos n) f =
    let split = div-add-mod' n (bits w) in
    (mod_below n (bits w) (bits_pos w), (pos (n / bits w), omega (arith, ints)))
IsDistance-low_bits w (negsuc n) f =
    let u = 2 ^ bits w - suc n in
    let q = u / bits w in
    let split = div-add-mod' u (bits w) in
    let c = blocks w in
    let small : suc n ≤ 2 ^ bits w = omega (arith, ints, halves w) in
    let fewer : q < c.0 = div_below u (bits w) c.0 (bits_pos w) (omega (arith, c.1)) in
    let d = c.0 - suc q in
    let whole : suc d * bits w + q * bits w ≡ 2 ^ bits w =
    sym (add-mul (suc d) q (bits w)) ∙ ap (λ k. k * bits w) (omega arith) ∙ sym c.1 in
    (mod_below u (bits w) (bits_pos w), (negsuc d, omega (arith, ints)))

floor_shr : (a : ℤ) (m : ℕ) → 0 < m → IsFloor a m (shr_z a m)
floor_shr (pos n) m h = (omega (arith, ints, div-add-mod' n m), omega (arith, ints, div-add-mod' n m, mod_below n m h))
floor_shr (negsuc n) m h =
    (omega (arith, ints, div-add-mod' n m, mod_below n m h), omega (arith, ints, div-add-mod' n m))

pub IsFloor-int_shr : (a : ℤ) (k : ℕ) → IsFloor a (2 ^ k) (int_shr a k)
IsFloor-int_shr a k = floor_shr a (2 ^ k) (pow_pos k)

pub fits_shr : (w : Width) (a : ℤ) (k : ℕ) → IsWord w a → IsWord w (int_shr a k)
fits_shr w a k f = IsWord-from_fits w (int_shr a k) (sfits_le (mag_shr a (2 ^ k)) (fits_from_IsWord w a f))

-- the word of some bits is what they wrap to
WrapsTo-cast_signed : (w : Width) (n : ℕ) → n < 2 ^ bits w → WrapsTo w (pos n) (cast_signed w n)
WrapsTo-cast_signed w n h =
    subst (WrapsTo w (pos n)) (wrap_from w (pos n) 0 n (omega (arith, ints)) ∙ ap (cast_signed w) (mod-eq_of_lt h))
    (WrapsTo-int_wrap w (pos n))

pub unsigned_quotient : (w : Width) (a : ℤ) (k : ℕ) → IsWord w a → (q : ℤ) × IsFloor (pos (cast_unsigned w a)) (2 ^ k) q
    × WrapsTo w q (cast_signed w (cast_unsigned w a / 2 ^ k))
unsigned_quotient w a k f =
    let u = cast_unsigned w a in
    let below : u / 2 ^ k < 2 ^ bits w = omega (arith, div-le_self u (2 ^ k), cast_unsigned_below w a f) in
    (pos (u / 2 ^ k), floor_shr (pos u) (2 ^ k) (pow_pos k), WrapsTo-cast_signed w (u / 2 ^ k) below)

taken : (n s p : ℕ) → s ≤ n → neg_ℤ (pos (s * p)) +ℤ pos (p * n) ≡ pos ((n - s) * p)
taken n s p h =
    let a : (n - s) * p + s * p ≡ p * n = sym (add-mul (n - s) s p) ∙ ap (λ k. k * p) (omega arith) ∙ mul_comm n p in
    omega (arith, ints, a)

-- a product with a natural, from the bits of the first factor
wrap_times : (w : Width) (a : ℤ) (p : ℕ) → FitsSigned w a
    → cast_signed w ((cast_unsigned w a * p) % 2 ^ bits w) ≡ int_wrap w (a *ℤ pos p)
unfolding int_wrap
wrap_times w (pos x) p f = refl
wrap_times w (negsuc x) p f =
    let small : suc x ≤ 2 ^ bits w = omega (arith, f.sfits, halves w) in
    sym (wrap_from w (negsuc x *ℤ pos p) p ((2 ^ bits w - suc x) * p) (taken (2 ^ bits w) (suc x) p small))

-- what the code's `a.wrapping_shl(k)` gives
pub shl_is : (w : Width) (a r : ℤ) (k : ℕ) → FitsSigned w a → FitsSigned w r
    → r ≡ int_shl w (cast_signed w (cast_unsigned w a)) k
    → cast_signed w (cast_unsigned w r) ≡ int_wrap w (a *ℤ pos (2 ^ k))
shl_is w a r k f h e = to_z-of_z w r h ∙ e ∙ ap (λ x. int_shl w x k) (to_z-of_z w a f) ∙ wrap_times w a (2 ^ k) f

-- What a number wraps to.
use Rattle.std.proofs.Common.{◌≡◌, ℕ, zero, suc, ◌+◌, ◌-◌, ◌*◌, ◌/◌, ◌%◌, ◌^◌, ◌<◌, ◌≤◌, ◌⊎◌, inl, inr, ⊎_elim, refl}
use Rattle.std.proofs.Common.{sym, ap, ◌∙◌, arith}
use Rattle.std.specs.Int.{Width, int_wrap, cast_signed}
use Rattle.std.specs.Int.RustNames.{unsigned_abs}
use Rattle.std.proofs.Math.Nat.{add-mul-mod_self_right, le-mul_of_pos_right, div-add-mod'}
use Rattle.std.proofs.lemmas.Nat.{pow_pos, mod_below}
use Rattle.std.proofs.lemmas.Int.{ints, int_rem_euclid_is, int_wrap_fits, SFits-int_wrap, to_z_pos}
use Rattle.std.proofs.lemmas.Bool.{cases_lt, le-ltb}
use Rattle.pp_word.specs.Wrapping.{SameModulo, WrapsTo}
use Rattle.pp_word.proofs.Ranges.{IsWord-from_fits, fits_from_IsWord}
use lib.IntN.{ℤ, pos, negsuc, ◌+ℤ◌, ◌*ℤ◌, neg_ℤ}
use mir.Val.{bits, hbits, sel}

-- the bits m, where z and m differ by a multiple of 2 ^ bits
pub wrap_from : (w : Width) (z : ℤ) (k m : ℕ) → z +ℤ pos (k * 2 ^ bits w) ≡ pos m
    → int_wrap w z ≡ cast_signed w (m % 2 ^ bits w)
unfolding int_wrap
wrap_from w z k m e =
    ap (λ r. cast_signed w (unsigned_abs r))
    (int_rem_euclid_is z (pos (2 ^ bits w)) (2 ^ bits w) k m (pow_pos (bits w)) refl e)

-- some multiple of n makes a number natural
natural_from : (n : ℕ) (z : ℤ) → 0 < n → (k : ℕ) × (m : ℕ) × (z +ℤ pos (k * n) ≡ pos m)
natural_from n (pos a) h = (0, a, omega (arith, ints))
natural_from n (negsuc a) h =
    let enough : suc a ≤ suc a * n = le-mul_of_pos_right (suc a) h in
    (suc a, suc a * n - suc a, omega (arith, ints))

-- a multiple of 2 ^ bits is wrapped away
int_wrap-multiple : (w : Width) (z k : ℤ) → int_wrap w (z +ℤ (k *ℤ pos (2 ^ bits w))) ≡ int_wrap w z
int_wrap-multiple w z (pos p) =
    let t = natural_from (2 ^ bits w) z (pow_pos (bits w)) in
    wrap_from w (z +ℤ (pos p *ℤ pos (2 ^ bits w))) t.0 (t.1 + p * 2 ^ bits w) (omega (arith, ints, t.2))
    ∙ ap (cast_signed w) (add-mul-mod_self_right t.1 p (2 ^ bits w))
    ∙ sym (wrap_from w z t.0 t.1 t.2)
int_wrap-multiple w z (negsuc p) =
    let t = natural_from (2 ^ bits w) z (pow_pos (bits w)) in
    wrap_from w (z +ℤ (negsuc p *ℤ pos (2 ^ bits w))) (t.0 + suc p) t.1 (omega (arith, ints, t.2))
    ∙ sym (wrap_from w z t.0 t.1 t.2)

-- the signed reading of the bits u is u, or 2 ^ bits below it
cast_signed_is : (w : Width) (u : ℕ) → u < 2 ^ bits w → (cast_signed w u ≡ pos u)
    ⊎ (cast_signed w u +ℤ pos (2 ^ bits w) ≡ pos u)
cast_signed_is w u h = ⊎_elim (λ low. inl (to_z_pos w u low)) (λ high. inr (read high)) (cases_lt u (2 ^ hbits w))
  where
    read : 2 ^ hbits w ≤ u → cast_signed w u +ℤ pos (2 ^ bits w) ≡ pos u
    read high =
        let e : cast_signed w u ≡ negsuc (2 ^ bits w - suc u) =
        ap (λ t. sel t (pos u) (negsuc (2 ^ bits w - suc u))) (le-ltb u (2 ^ hbits w) high) in
        ap (λ r. r +ℤ pos (2 ^ bits w)) e ∙ omega (arith, ints)

neg_times : (q n : ℕ) → neg_ℤ (pos q) *ℤ pos n ≡ neg_ℤ (pos (q * n))
neg_times zero n = omega (arith, ints)
neg_times (suc q) n = refl

int_wrap-same : (w : Width) (z : ℤ) → SameModulo (2 ^ bits w) z (int_wrap w z)
unfolding int_wrap
int_wrap-same w (pos a) =
    let n = 2 ^ bits w in
    let split : a / n * n + a % n ≡ a = div-add-mod' a n in
    ⊎_elim
    (λ e. (pos (a / n), omega (arith, ints, e)))
    (λ e. (pos (a / n + 1), omega (arith, ints, e)))
    (cast_signed_is w (a % n) (mod_below a n (pow_pos (bits w))))
int_wrap-same w (negsuc a) =
    let n = 2 ^ bits w in
    let split : a / n * n + a % n ≡ a = div-add-mod' a n in
    let small : a % n < n = mod_below a n (pow_pos (bits w)) in
    ⊎_elim
    (λ e. (negsuc (a / n), omega (arith, ints, e)))
    (λ e. (neg_ℤ (pos (a / n)), omega (arith, ints, e, neg_times (a / n) n)))
    (cast_signed_is w (n - 1 - a % n) (omega arith))

pub WrapsTo-int_wrap : (w : Width) (z : ℤ) → WrapsTo w z (int_wrap w z)
WrapsTo-int_wrap w z = record {
  word = IsWord-from_fits w (int_wrap w z) (SFits-int_wrap w z);
  same = int_wrap-same w z;
  only = λ s h e. sym (int_wrap_fits w s (fits_from_IsWord w s h)) ∙ sym (int_wrap-multiple w s e.0)
      ∙ ap (int_wrap w) (sym e.1);
}

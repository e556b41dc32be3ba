-- std's quotient and remainder are those of the Java specification.
use Rattle.std.proofs.Common.{◌≡◌, ◌≢◌, ℕ, zero, suc, ◌*◌, ◌/◌, ◌%◌, ◌^◌, ◌<◌, ◌≤◌, ◌⊎◌, inl, inr, ⊎_elim, refl, sym}
use Rattle.std.proofs.Common.{ap, ◌∙◌, subst, arith}
use Rattle.std.specs.Int.{Width, w8, w16, w32, w64, w128, int_wrap, cast_signed, cast_unsigned, int_wrapping_div}
use Rattle.std.specs.Int.RustNames.{FitsSigned, int_div, int_rem, unsigned_abs}
use Rattle.std.proofs.Math.Nat.{mod-eq_of_lt, div-le_self, le-mul_of_pos_right, mul-le-mul_left}
use Rattle.std.proofs.lemmas.Nat.{pow_pos, le-div}
use Rattle.std.proofs.lemmas.Int.{ints, to_z-of_z, quot-rem, rem_below, unsigned_abs-mul}
use Rattle.pp_word.specs.Wrapping.{IsWord, least_word}
use Rattle.pp_word.specs.Division.{HaveOneSign, HaveOppositeSigns, IsQuotient, IsRemainder}
use Rattle.pp_word.proofs.Ranges.{halves, IsWord-from_fits, fits_from_IsWord}
use lib.IntN.{ℤ, pos, negsuc, ◌+ℤ◌, ◌*ℤ◌, neg_ℤ}
use lib.Signed.{◌<ℤ◌, mag_rem}
use mir.Val.{bits, hbits}
use mir.ValLaws.{sfits_le}

unsigned_abs-neg : (n : ℕ) → unsigned_abs (neg_ℤ (pos n)) ≡ n
unsigned_abs-neg zero = refl
unsigned_abs-neg (suc n) = refl

unsigned_abs-int_div : (n d : ℤ) → unsigned_abs (int_div n d) ≡ unsigned_abs n / unsigned_abs d
unsigned_abs-int_div (pos a) (pos b) = refl
unsigned_abs-int_div (pos a) (negsuc b) = unsigned_abs-neg (a / suc b)
unsigned_abs-int_div (negsuc a) (pos b) = unsigned_abs-neg (suc a / b)
unsigned_abs-int_div (negsuc a) (negsuc b) = refl

unsigned_abs_pos : (d : ℤ) → d ≢ pos 0 → 0 < unsigned_abs d
unsigned_abs_pos (pos zero) h = absurd (h refl)
unsigned_abs_pos (pos (suc d)) h = omega arith
unsigned_abs_pos (negsuc d) h = omega arith

-- the quotient is not 0 where the divisor is no larger than the dividend
one_le-div : (n d : ℕ) → 0 < d → d ≤ n → 1 ≤ n / d
one_le-div n d h k = le-div 1 n d h (omega arith)

positive_quotient : (n d : ℤ) → 0 < unsigned_abs d → unsigned_abs d ≤ unsigned_abs n → HaveOneSign n d
    → pos 0 <ℤ int_div n d
positive_quotient (pos a) (pos b) h k s = omega (arith, ints, one_le-div a b h k)
positive_quotient (pos a) (negsuc b) h k s =
    ⊎_elim (λ l. absurd (omega (arith, ints, l.1))) (λ l. absurd (omega (arith, ints, l.0))) s
positive_quotient (negsuc a) (pos b) h k s =
    ⊎_elim (λ l. absurd (omega (arith, ints, l.0))) (λ l. absurd (omega (arith, ints, l.1))) s
positive_quotient (negsuc a) (negsuc b) h k s = omega (arith, ints, one_le-div (suc a) (suc b) h k)

negative_quotient : (n d : ℤ) → 0 < unsigned_abs d → unsigned_abs d ≤ unsigned_abs n → HaveOppositeSigns n d
    → int_div n d <ℤ pos 0
negative_quotient (pos a) (pos b) h k s =
    ⊎_elim (λ l. absurd (omega (arith, ints, l.1))) (λ l. absurd (omega (arith, ints, l.0))) s
negative_quotient (pos a) (negsuc b) h k s = omega (arith, ints, one_le-div a (suc b) h k)
negative_quotient (negsuc a) (pos b) h k s = omega (arith, ints, one_le-div (suc a) b h k)
negative_quotient (negsuc a) (negsuc b) h k s =
    ⊎_elim (λ l. absurd (omega (arith, ints, l.0))) (λ l. absurd (omega (arith, ints, l.1))) s

pub IsQuotient-int_div : (n d : ℤ) → d ≢ pos 0 → IsQuotient n d (int_div n d)
IsQuotient-int_div n d h =
    let p = unsigned_abs_pos d h in
    let e = unsigned_abs-int_div n d in
    record {
      within = rw (unsigned_abs-mul d (int_div n d), e) (omega arith);
      largest = λ q k. rw e (le-div (unsigned_abs q) (unsigned_abs n) (unsigned_abs d) p
          (omega (arith, unsigned_abs-mul d q, k)));
      positive = positive_quotient n d p;
      negative = negative_quotient n d p;
    }

negative_rem : (n d : ℤ) → int_rem n d <ℤ pos 0 → n <ℤ pos 0
negative_rem (pos a) d h = absurd (omega (arith, ints, h))
negative_rem (negsuc a) d h = omega (arith, ints)

positive_rem : (n d : ℤ) → pos 0 <ℤ int_rem n d → pos 0 <ℤ n
positive_rem (pos zero) d h = absurd (omega (arith, ints, h))
positive_rem (pos (suc a)) d h = omega (arith, ints)
positive_rem (negsuc a) d h = absurd (omega (arith, ints, h))

pub IsRemainder-int_rem : (n d : ℤ) → d ≢ pos 0 → IsRemainder n d (int_rem n d)
IsRemainder-int_rem n d h = record {
  rest = (int_div n d, IsQuotient-int_div n d h, quot-rem n d);
  negative = negative_rem n d;
  positive = positive_rem n d;
  smaller = rem_below n d (unsigned_abs_pos d h);
}

-- ---- there is one quotient, and one remainder

sign_cases : (n d : ℤ) → 0 < unsigned_abs d → unsigned_abs d ≤ unsigned_abs n → HaveOneSign n d ⊎ HaveOppositeSigns n d
sign_cases (pos a) (pos b) h k = inl (inl (omega (arith, ints), omega (arith, ints)))
sign_cases (pos a) (negsuc b) h k = inr (inl (omega (arith, ints), omega (arith, ints)))
sign_cases (negsuc a) (pos b) h k = inr (inr (omega (arith, ints), omega (arith, ints)))
sign_cases (negsuc a) (negsuc b) h k = inl (inr (omega (arith, ints), omega (arith, ints)))

-- a dividend that has a quotient other than 0 is no smaller than the divisor
divisor_le : (n d q : ℤ) → 0 < unsigned_abs q → unsigned_abs (d *ℤ q) ≤ unsigned_abs n → unsigned_abs d ≤ unsigned_abs n
divisor_le n d q h k = omega (arith, unsigned_abs-mul d q, le-mul_of_pos_right (unsigned_abs d) h)

-- no quotient is positive where another is negative
signs_agree : (n d : ℤ) (a b : ℕ) → d ≢ pos 0 → IsQuotient n d (pos a) → IsQuotient n d (negsuc b) → ⊥
signs_agree n d a b h f g =
    let larger = divisor_le n d (negsuc b) (omega arith) g.within in
    ⊎_elim
    (λ one. omega (arith, ints, g.positive larger one))
    (λ opposite. omega (arith, ints, f.negative larger opposite))
    (sign_cases n d (unsigned_abs_pos d h) larger)

pub same_quotient : (n d q p : ℤ) → d ≢ pos 0 → IsQuotient n d q → IsQuotient n d p → q ≡ p
same_quotient n d (pos a) (pos b) h f g = omega (arith, ints, f.largest (pos b) g.within, g.largest (pos a) f.within)
same_quotient n d (pos a) (negsuc b) h f g = absurd (signs_agree n d a b h f g)
same_quotient n d (negsuc a) (pos b) h f g = absurd (signs_agree n d b a h g f)
same_quotient n d (negsuc a) (negsuc b) h f g =
    omega (arith, ints, f.largest (negsuc b) g.within, g.largest (negsuc a) f.within)

pub same_remainder : (n d r s : ℤ) → d ≢ pos 0 → IsRemainder n d r → IsRemainder n d s → r ≡ s
same_remainder n d r s h f g =
    let q = g.rest.0 in
    let e : f.rest.0 ≡ q = same_quotient n d f.rest.0 q h f.rest.1 g.rest.1 in
    let k : ((q *ℤ d) +ℤ r) ≡ n = subst (λ (t : ℤ). ((t *ℤ d) +ℤ r) ≡ n) e f.rest.2 in
    omega (arith, ints, k, g.rest.2)

-- a quotient of words is a word, but for the least by -1
pub fits_quotient : (w : Width) (n d : ℤ) → IsWord w n → ¬ ((n ≡ least_word w) × (d ≡ negsuc 0))
    → FitsSigned w (int_div n d)
fits_quotient w (pos a) d f s =
    let e : unsigned_abs (int_div (pos a) d) ≤ a =
    omega (arith, unsigned_abs-int_div (pos a) d, div-le_self a (unsigned_abs d)) in
    omega (arith, ints)
fits_quotient w (negsuc a) (pos b) f s = omega (arith, ints, div-le_self (suc a) b)
fits_quotient w (negsuc a) (negsuc zero) f s =
    let e : suc a ≢ 2 ^ hbits w = λ e. s (ap (λ m. neg_ℤ (pos m)) e, refl) in
    omega (arith, ints, div-le_self (suc a) 1)
fits_quotient w (negsuc a) (negsuc (suc b)) f s =
    let q = suc a / suc (suc b) in
    let low : q * 2 ≤ q * suc (suc b) = mul-le-mul_left q (omega arith) in
    omega (arith, ints, pow_pos (hbits w))

pub least_quotient : (w : Width) → int_wrap w (int_div (least_word w) (negsuc 0)) ≡ least_word w
unfolding int_wrap
least_quotient w8 = refl
least_quotient w16 = refl
least_quotient w32 = refl
least_quotient w64 = refl
least_quotient w128 = refl

pub least_remainder : (w : Width) → int_rem (least_word w) (negsuc 0) ≡ pos 0
least_remainder w8 = refl
least_remainder w16 = refl
least_remainder w32 = refl
least_remainder w64 = refl
least_remainder w128 = refl

pub fits_remainder : (w : Width) (n d : ℤ) → IsWord w n → IsWord w (int_rem n d)
fits_remainder w n d f = IsWord-from_fits w (int_rem n d) (sfits_le (mag_rem n d) (fits_from_IsWord w n f))

-- a number of absolute value below 2 ^ bits is read off its bits
wrap_small : (w : Width) (z : ℤ) → unsigned_abs z < 2 ^ bits w → int_wrap w z ≡ cast_signed w (cast_unsigned w z)
unfolding int_wrap
wrap_small w (pos n) h = ap (cast_signed w) (mod-eq_of_lt h)
wrap_small w (negsuc n) h =
    let below : n < 2 ^ bits w = omega arith in
    let e : n % 2 ^ bits w ≡ n = mod-eq_of_lt below in
    ap (cast_signed w) (omega arith)

-- what the code's `a.wrapping_div(b)` gives
pub wrapping_div_is : (w : Width) (a b r : ℤ) → FitsSigned w a → FitsSigned w b → FitsSigned w r
    → r ≡ int_wrapping_div w (cast_signed w (cast_unsigned w a)) (cast_signed w (cast_unsigned w b))
    → cast_signed w (cast_unsigned w r) ≡ int_wrap w (int_div a b)
wrapping_div_is w a b r f g h e =
    let small : unsigned_abs (int_div a b) < 2 ^ bits w =
    omega (
      arith,
      ints,
      unsigned_abs-int_div a b,
      div-le_self (unsigned_abs a) (unsigned_abs b),
      halves w,
      pow_pos (hbits w),
    ) in
    to_z-of_z w r h ∙ e ∙ (λ i. int_wrapping_div w (to_z-of_z w a f i) (to_z-of_z w b g i))
    ∙ sym (wrap_small w (int_div a b) small)

-- what the code's `a.wrapping_rem(b)` gives
pub wrapping_rem_is : (w : Width) (a b r : ℤ) → FitsSigned w a → FitsSigned w b → FitsSigned w r
    → r ≡ int_rem (cast_signed w (cast_unsigned w a)) (cast_signed w (cast_unsigned w b))
    → cast_signed w (cast_unsigned w r) ≡ int_rem a b
wrapping_rem_is w a b r f g h e =
    to_z-of_z w r h ∙ e ∙ (λ i. int_rem (to_z-of_z w a f i) (to_z-of_z w b g i))

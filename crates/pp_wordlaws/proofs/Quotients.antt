-- Signed quotients and remainders, from those of the magnitudes.
use Rattle.std.proofs.Common.{◌≡◌, ℕ, ◌+◌, ◌-◌, ◌*◌, ◌/◌, ◌%◌, ◌^◌, ◌<◌, cond, refl, sym, ap, ◌∙◌, arith}
use Rattle.std.specs.Int.{Width, int_wrap, cast_signed}
use Rattle.std.specs.Int.RustNames.{unsigned_abs, int_div, int_rem}
use Rattle.std.proofs.Math.Nat.{div-le_self}
use Rattle.std.proofs.lemmas.Nat.{div-mul-add, mod-mul-add}
use Rattle.std.proofs.lemmas.Int.{int_wrap_fits}
use Rattle.pp_word.specs.Bits.{differ}
use Rattle.pp_word.specs.Word.{word_div, word_rem}
use Rattle.pp_word.specs.Wrapping.{IsWord}
use Rattle.pp_word.proofs.Ranges.{fits_from_IsWord}
use Rattle.pp_word.proofs.Quotients.{fits_remainder}
use Rattle.pp_wordlaws.proofs.Readings.{is_negative, signed, magnitude_below, wrap_signed}
use lib.IntN.{ℤ, pos, negsuc}
use mir.Val.{bits}

int_div-signed : (n d : ℤ)
    → int_div n d ≡ signed (differ (is_negative n) (is_negative d)) (unsigned_abs n / unsigned_abs d)
int_div-signed (pos a) (pos b) = refl
int_div-signed (pos a) (negsuc b) = refl
int_div-signed (negsuc a) (pos b) = refl
int_div-signed (negsuc a) (negsuc b) = refl

int_rem-signed : (n d : ℤ) → int_rem n d ≡ signed (is_negative n) (unsigned_abs n % unsigned_abs d)
int_rem-signed (pos a) d = refl
int_rem-signed (negsuc a) d = refl

-- the number of the bits that a division makes: the quotient of the magnitudes, with its sign
pub quotient_of_bits : (w : Width) (n d : ℤ) (q rest : ℕ) → IsWord w n → q * unsigned_abs d + rest ≡ unsigned_abs n
    → rest < unsigned_abs d
    → cast_signed w (cond (differ (is_negative n) (is_negative d)) ((2 ^ bits w - q) % 2 ^ bits w) q) ≡ word_div w n d
unfolding word_div
quotient_of_bits w n d q rest is whole below =
    let quotient : unsigned_abs n / unsigned_abs d ≡ q =
    ap (λ u. u / unsigned_abs d) (sym whole) ∙ div-mul-add q (unsigned_abs d) rest below in
    let small : q < 2 ^ bits w =
    omega (arith, magnitude_below w n is, quotient, div-le_self (unsigned_abs n) (unsigned_abs d)) in
    wrap_signed w (differ (is_negative n) (is_negative d)) q small
    ∙ ap (int_wrap w) (sym (int_div-signed n d ∙ ap (signed (differ (is_negative n) (is_negative d))) quotient))

-- and of a remainder: that of the magnitudes, with the dividend's sign
pub remainder_of_bits : (w : Width) (n d : ℤ) (q rest : ℕ) → IsWord w n → rest < 2 ^ bits w
    → q * unsigned_abs d + rest ≡ unsigned_abs n → rest < unsigned_abs d
    → cast_signed w (cond (is_negative n) ((2 ^ bits w - rest) % 2 ^ bits w) rest) ≡ word_rem w n d
unfolding word_rem
remainder_of_bits w n d q rest is small whole below =
    let remainder : unsigned_abs n % unsigned_abs d ≡ rest =
    ap (λ u. u % unsigned_abs d) (sym whole) ∙ mod-mul-add q (unsigned_abs d) rest below in
    wrap_signed w (is_negative n) rest small
    ∙ ap (int_wrap w) (sym (int_rem-signed n d ∙ ap (signed (is_negative n)) remainder))
    ∙ int_wrap_fits w (int_rem n d) (fits_from_IsWord w (int_rem n d) (fits_remainder w n d is))

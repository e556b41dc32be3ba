-- A word in std's terms: `FitsSigned`, and its unsigned reading by `cast_unsigned`.
use Rattle.std.proofs.Common.{◌≡◌, ℕ, ◌+◌, ◌^◌, ◌<◌, refl, arith}
use Rattle.std.specs.Int.{Width, w8, w16, w32, w64, w128, cast_signed, cast_unsigned}
use Rattle.std.specs.Int.RustNames.{FitsSigned}
use Rattle.std.proofs.lemmas.Nat.{pow_pos}
use Rattle.std.proofs.lemmas.Int.{ints}
use Rattle.pp_word.specs.Wrapping.{IsWord, IsUnsignedReading}
use lib.IntN.{ℤ, pos, negsuc}
use mir.Val.{bits, hbits}
use mir.ValLaws.{to_z-Fits}

pub IsWord-from_fits : (w : Width) (z : ℤ) → FitsSigned w z → IsWord w z
IsWord-from_fits w z f = (omega (arith, ints), omega (arith, ints))

pub fits_from_IsWord : (w : Width) (z : ℤ) → IsWord w z → FitsSigned w z
fits_from_IsWord w z h = omega (arith, ints)

-- a power of 2 at a width is two halves
pub halves : (w : Width) → 2 ^ bits w ≡ 2 ^ hbits w + 2 ^ hbits w
halves w8 = refl
halves w16 = refl
halves w32 = refl
halves w64 = refl
halves w128 = refl

pub cast_unsigned_below : (w : Width) (z : ℤ) → IsWord w z → cast_unsigned w z < 2 ^ bits w
cast_unsigned_below w (pos n) h = omega (arith, ints, halves w)
cast_unsigned_below w (negsuc n) h = omega (arith, pow_pos (bits w))

pub IsWord-cast_signed : (w : Width) (n : ℕ) → n < 2 ^ bits w → IsWord w (cast_signed w n)
IsWord-cast_signed w n h = IsWord-from_fits w (cast_signed w n) (to_z-Fits w n (record { fits = h }))

pub IsUnsignedReading-cast_unsigned : (w : Width) (z : ℤ) → IsWord w z → IsUnsignedReading w z (cast_unsigned w z)
IsUnsignedReading-cast_unsigned w (pos n) h = (cast_unsigned_below w (pos n) h, (pos 0, omega (arith, ints)))
IsUnsignedReading-cast_unsigned w (negsuc n) h =
    (cast_unsigned_below w (negsuc n) h, (negsuc 0, omega (arith, ints, h, halves w)))

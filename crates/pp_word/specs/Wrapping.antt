-- What it means to wrap, in plain integers.
use Rattle.std.specs.Prelude.{◌≡◌, ℕ, ◌^◌, ◌<◌, ℤ, pos, neg_ℤ, ◌+ℤ◌, ◌*ℤ◌, ◌≤ℤ◌, ◌<ℤ◌}
use Rattle.std.specs.Int.{Width}
use mir.Val.{bits, hbits}

-- the least word: -2147483648 at 32 bits. `hbits w` is one less than `bits w`
abbrev pub least_word : Width → ℤ
least_word w = neg_ℤ (pos (2 ^ hbits w))

-- z is a word of width w: for `Int` it lies from -2147483648 to 2147483647 (JLS 4.2.1)
abbrev pub IsWord : Width → ℤ → Type 0
IsWord w z = (least_word w ≤ℤ z) × (z <ℤ pos (2 ^ hbits w))

-- y and z differ by a multiple of m
abbrev pub SameModulo : ℕ → ℤ → ℤ → Type 0
SameModulo m y z = (k : ℤ) × (y ≡ z +ℤ (k *ℤ pos m))

-- r is what z wraps to: the one word that differs from z by a multiple of 2 ^ bits w.
-- In Java it is the low-order bits of the mathematical sum or product in two's complement (JLS 15.17.1, 15.18.2).
pub record WrapsTo (w : Width) (z r : ℤ) : Type 0 where
  pub word : IsWord w r
  pub same : SameModulo (2 ^ bits w) z r
  pub only : (s : ℤ) → IsWord w s → SameModulo (2 ^ bits w) z s → s ≡ r

-- u is a word's unsigned reading: not negative, below 2 ^ bits w, and it differs from z by a multiple of 2 ^ bits w.
-- Its binary digits are the bits of z in two's complement (JLS 4.2).
abbrev pub IsUnsignedReading : Width → ℤ → ℕ → Type 0
IsUnsignedReading w z u = (u < 2 ^ bits w) × SameModulo (2 ^ bits w) z (pos u)

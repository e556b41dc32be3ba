-- What holds of the numbers that lists of literals stand for. (own; binary numerals and two's complement)
use Rattle.std.specs.Prelude.{◌≡◌, ℕ, ◌^◌, ◌<◌, Bool, List, length}
use Rattle.std.specs.Int.{Width, cast_signed}
use Rattle.pp_clause.specs.Literal.{Literal}
use Rattle.pp_bits.specs.Number.{nat_of, signed_of}
use mir.Val.{bits}

-- a number of n digits is less than 2^n
abbrev pub DigitsBound : Type 0
DigitsBound = (s : ℕ → Bool) (ls : List Literal) → nat_of s ls < 2 ^ length ls

-- at the widths of Rust's integers two's complement is what a cast to the signed type makes of the digits
abbrev pub SignedByCast : Type 0
SignedByCast = (w : Width) (v : ℕ) → v < 2 ^ bits w → signed_of (bits w) v ≡ cast_signed w v

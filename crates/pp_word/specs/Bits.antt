-- The bits of a word, and what is done to each.
use Rattle.std.specs.Prelude.{ℕ, ◌/◌, ◌%◌, ◌^◌, ◌==◌, Bool, true, false, not, ℤ}
use Rattle.std.specs.Int.{Width, cast_unsigned}

-- bit i of a, where bit 0 is the lowest: binary digit i of its unsigned reading (JLS 4.2: two's complement)
abbrev pub bit_of : Width → ℤ → ℕ → Bool
bit_of w a i = (cast_unsigned w a / 2 ^ i) % 2 == 1

-- whether the two differ: one is true, and not both
abbrev pub differ : Bool → Bool → Bool
differ true y = not y
differ false y = y

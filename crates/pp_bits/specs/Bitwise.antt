-- What is done to each pair of digits. (own)
use Rattle.std.specs.Prelude.{ℕ, Bool, ◌&&◌, ◌||◌}
use Rattle.std.specs.Int.RustNames.{bit_and, bit_or, bit_xor}
use Rattle.pp_gate.specs.Gate.{xor_of}
use Rattle.pp_bits.specs.declared.bitwise.Bitwise.{Bitwise}
use Rattle.pp_bits.specs.declared.bitwise.Bitwise.TheVariants.{And, Or, Xor}

-- on truth values
abbrev pub bit_by : Bitwise → Bool → Bool → Bool
bit_by And x y = x && y
bit_by Or x y = x || y
bit_by Xor x y = xor_of x y

-- on all digits of two natural numbers, as Rust's `&`, `|` and `^` do it
abbrev pub bits_by : Bitwise → ℕ → ℕ → ℕ
bits_by And m n = bit_and m n
bits_by Or m n = bit_or m n
bits_by Xor m n = bit_xor m n

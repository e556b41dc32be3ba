-- The operations on the words of a width w, as Scala has them on `Int` (w32) and `Long` (w64).
-- A word of width w is an integer from -2 ^ (bits w - 1) to 2 ^ (bits w - 1) - 1. `int_wrap w z` is the one word that
-- differs from z by a multiple of 2 ^ bits w, and `cast_unsigned w a` the number from 0 to 2 ^ bits w - 1 that does:
-- the bits of a.
-- The other files of this folder say in plain integers what each operation means, and the laws of `src/` tie the two.
-- Source: Scala Language Specification 2.13, 12.2.1, and the rules of the Java Language Specification (JLS) named
-- below.
use Rattle.std.specs.Prelude.{ℕ, ◌/◌, ◌%◌, ◌^◌, Bool, ℤ, pos, neg_ℤ, ◌+ℤ◌, ◌-ℤ◌, ◌*ℤ◌}
use Rattle.std.specs.Int.{Width, int_wrap, cast_signed, cast_unsigned, int_shr}
use Rattle.std.specs.Int.RustNames.{bit_and, bit_or, bit_xor, int_div, int_rem, int_lt, int_le}
use mir.Val.{bits}

-- ---- sum, difference, product, negation: they wrap (JLS 15.18.2, 15.17.1, 15.15.4)

unfoldable pub word_add : Width → ℤ → ℤ → ℤ
word_add w a b = int_wrap w (a +ℤ b)

unfoldable pub word_sub : Width → ℤ → ℤ → ℤ
word_sub w a b = int_wrap w (a -ℤ b)

unfoldable pub word_mul : Width → ℤ → ℤ → ℤ
word_mul w a b = int_wrap w (a *ℤ b)

unfoldable pub word_neg : Width → ℤ → ℤ
word_neg w a = int_wrap w (neg_ℤ a)

-- ---- quotient and remainder, for b other than 0 (JLS 15.17.2, 15.17.3)

-- toward zero; the least word divided by -1 wraps to itself
unfoldable pub word_div : Width → ℤ → ℤ → ℤ
word_div w a b = int_wrap w (int_div a b)

-- a less b times the quotient: it has the sign of a, and needs no wrapping
unfoldable pub word_rem : Width → ℤ → ℤ → ℤ
word_rem w a b = int_rem a b

-- ---- shifts of a by b (JLS 15.19)

-- by how many bits: the low five bits of b at 32 bits, the low six at 64
unfoldable pub shift_distance : Width → ℤ → ℕ
shift_distance w b = cast_unsigned w b % bits w

unfoldable pub word_shl : Width → ℤ → ℤ → ℤ
word_shl w a b = int_wrap w (a *ℤ pos (2 ^ shift_distance w b))

-- `>>` rounds down, so that the sign stays
unfoldable pub word_shr : Width → ℤ → ℤ → ℤ
word_shr w a b = int_shr a (shift_distance w b)

-- `>>>` moves the bits, and puts zeros before them
unfoldable pub word_ushr : Width → ℤ → ℤ → ℤ
word_ushr w a b = cast_signed w (cast_unsigned w a / 2 ^ shift_distance w b)

-- ---- each bit by itself (JLS 15.22.1, 15.15.5)

unfoldable pub word_and : Width → ℤ → ℤ → ℤ
word_and w a b = cast_signed w (bit_and (cast_unsigned w a) (cast_unsigned w b))

unfoldable pub word_or : Width → ℤ → ℤ → ℤ
word_or w a b = cast_signed w (bit_or (cast_unsigned w a) (cast_unsigned w b))

unfoldable pub word_xor : Width → ℤ → ℤ → ℤ
word_xor w a b = cast_signed w (bit_xor (cast_unsigned w a) (cast_unsigned w b))

-- `~a` is -a - 1, which needs no wrapping
unfoldable pub word_not : Width → ℤ → ℤ
word_not w a = neg_ℤ a -ℤ pos 1

-- ---- order: the same at each width (JLS 15.20.1)

abbrev pub word_less : ℤ → ℤ → Bool
word_less a b = int_lt a b

abbrev pub word_at_most : ℤ → ℤ → Bool
word_at_most a b = int_le a b

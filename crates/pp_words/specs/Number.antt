-- The numbers of the command line. Source: own.
use Rattle.std.specs.Prelude.{ℕ, Bool, ◌&&◌, ◌==◌, ◌+◌, ◌*◌, ◌-◌, ◌∷◌, [], List, None, Option, Some, false}
use Rattle.std.specs.Prelude.{if◌then◌else◌, length, nat_le, not, option_and_then, true}
use Rattle.pp_limits.specs.declared.Range.{Range}

abbrev pub is_digit : ℕ → Bool
is_digit byte = nat_le 48 byte && nat_le byte 57

-- the number whose decimal digits are those of n and then these
abbrev pub with_digits : ℕ → List ℕ → Option ℕ
with_digits n [] = Some n
with_digits n (byte ∷ bytes) = if is_digit byte then with_digits (10 * n + (byte - 48)) bytes else None

-- one character, or several of which the first isn't `0`
abbrev pub has_no_leading_zero : List ℕ → Bool
has_no_leading_zero [] = false
has_no_leading_zero (byte ∷ []) = true
has_no_leading_zero (byte ∷ bytes) = not (byte == 48)

abbrev pub within : ℕ → ℕ → ℕ → Option ℕ
within low high n = if nat_le low n && nat_le n high then Some n else None

-- one to seven decimal digits without sign, with no leading zero but `0` itself, of a number in the range
abbrev pub number_in : ℕ → ℕ → List ℕ → Option ℕ
number_in low high text =
    if has_no_leading_zero text && nat_le (length text) 7 then option_and_then (within low high)
    (with_digits 0 text) else None

-- the number that an option of this range has: the one that is given, and else its default
abbrev pub number_of : Range → Option (List ℕ) → Option ℕ
number_of range None = Some range.default
number_of range (Some text) = number_in range.least range.most text

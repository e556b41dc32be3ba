-- Numbers (Scala Language Specification 2.13, 1.3.1; own: the limit of decimal numbers, and what can't follow one).
use Rattle.std.specs.Prelude.{ℕ, Bool, true, false, not, cond, ◌&&◌, ◌||◌, ◌==◌, nat_lt, nat_le, ◌+◌, ◌-◌, ◌*◌, List}
use Rattle.std.specs.Prelude.{[], ◌∷◌, take, drop, fold, Some}
use Rattle.std.specs.List.{prefix_len}
use Rattle.std.specs.Char.{is_ascii_digit, is_ascii_hexdigit}
use Rattle.unicode_ident.specs.Ident.{is_xid_continue}
use Rattle.pp_tokens.specs.declared.token.TokenKind.TheVariants.{Number, Hex}
use Rattle.pp_tokens.specs.declared.front.Fault.TheVariants.{BadNumber}
use Rattle.pp_tokens.specs.declared.front.Front.{Front}
use Rattle.pp_tokens.specs.declared.front.Front.TheVariants.{Takes, Bad}
use Rattle.pp_tokens.specs.Characters.{goes_on, goes_on_digit}

-- the value of a decimal or hexadecimal digit
abbrev pub digit_of : ℕ → ℕ
digit_of c = cond (nat_le c 57) (c - 48) (cond (nat_le c 70) (c - 55) (c - 87))

-- the value of digits in a base
abbrev pub value : ℕ → List ℕ → ℕ
value base digits = fold (λ v d. v * base + digit_of d) 0 digits

-- A number may end before these characters: they don't go on with a character that continues names, nor with a dot and
-- a digit.
abbrev pub is_end : List ℕ → Bool
is_end [] = true
is_end (c ∷ cs) = not (is_xid_continue c) && not ((c == 46) && goes_on_digit cs)

-- a hexadecimal number begins: `0x` or `0X`, and a digit
abbrev pub is_hexadecimal : List ℕ → Bool
is_hexadecimal (nought ∷ x ∷ digit ∷ cs) = (nought == 48) && ((x == 120) || (x == 88)) && is_ascii_hexdigit digit
is_hexadecimal _ = false

-- a decimal number has all digits that follow, without a leading zero, and is at most 2147483648
abbrev pub decimal : List ℕ → Front
decimal cs =
    let n = prefix_len is_ascii_digit cs in
    let v = value 10 (take n cs) in
    cond ((not (goes_on 48 cs && nat_lt 1 n) && is_end (drop n cs)) && nat_le v 2147483648) (Takes (Some (Number v)) n)
    (Bad BadNumber)

-- a hexadecimal number has all hexadecimal digits that follow its `0x`, and is at most 0xFFFFFFFF
abbrev pub hexadecimal : List ℕ → Front
hexadecimal cs =
    let n = prefix_len is_ascii_hexdigit (drop 2 cs) in
    let v = value 16 (take n (drop 2 cs)) in
    cond (is_end (drop n (drop 2 cs)) && nat_le v 0xFFFFFFFF) (Takes (Some (Hex v)) (2 + n)) (Bad BadNumber)

-- the number at the front of characters that begin with a digit
abbrev pub number_front : List ℕ → Front
number_front cs = cond (is_hexadecimal cs) (hexadecimal cs) (decimal cs)

-- Kinds of characters.
use Rattle.std.specs.Prelude.{ℕ, Bool, false, ◌&&◌, ◌||◌, ◌==◌, List, [], ◌∷◌, codes}
use Rattle.std.specs.List.{list_any, sum_by}
use Rattle.std.specs.Char.{len_utf8, is_ascii_digit}
use Rattle.unicode_ident.specs.Ident.{is_xid_start, is_xid_continue}

abbrev pub is_line_feed : ℕ → Bool
is_line_feed c = c == 10

-- white space that ends no line: a blank, a tab, a carriage return or a form feed (own)
abbrev pub is_blank : ℕ → Bool
is_blank c = (c == 32) || (c == 9) || (c == 13) || (c == 12)

-- the characters of operators
abbrev pub operator_chars : List ℕ
operator_chars = codes "!#%&*+-/:<=>?@\\^|~"

abbrev pub is_operator_char : ℕ → Bool
is_operator_char c = list_any (λ x. x == c) operator_chars

-- a character with which a name begins: a start (Unicode Standard Annex 31), or an underscore
abbrev pub starts_name : ℕ → Bool
starts_name c = is_xid_start c || (c == 95)

-- the characters go on with one that passes the test
abbrev pub goes_on_with : (ℕ → Bool) → List ℕ → Bool
goes_on_with p [] = false
goes_on_with p (c ∷ cs) = p c

-- the characters go on with x
abbrev pub goes_on : ℕ → List ℕ → Bool
goes_on x cs = goes_on_with (λ c. c == x) cs

-- the characters go on with one that continues names
abbrev pub goes_on_name : List ℕ → Bool
goes_on_name cs = goes_on_with is_xid_continue cs

-- the characters go on with a decimal digit
abbrev pub goes_on_digit : List ℕ → Bool
goes_on_digit cs = goes_on_with is_ascii_digit cs

-- c and then the characters begin with these two
abbrev pub begins : ℕ → ℕ → ℕ → List ℕ → Bool
begins first second c cs = (c == first) && goes_on second cs

-- a line comment begins: `//`
abbrev pub opens_line : ℕ → List ℕ → Bool
opens_line c cs = begins 47 47 c cs

-- a block comment begins: `/*`
abbrev pub opens_block : ℕ → List ℕ → Bool
opens_block c cs = begins 47 42 c cs

-- the end of a block comment: `*/`
abbrev pub closes_block : ℕ → List ℕ → Bool
closes_block c cs = begins 42 47 c cs

-- how many bytes the characters have in UTF-8
abbrev pub width : List ℕ → ℕ
width cs = sum_by len_utf8 cs

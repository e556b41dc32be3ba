-- The law above the definition: the parts of a text, put together in order, give the text, and each part is right where
-- it stands, with regard to what follows it.
use Rattle.std.specs.Prelude.{ℕ, ◌≡◌, ◌≢◌, ◌≤◌, ◌⊎◌, Bool, true, false, not, List, [], ◌∷◌, ◌++◌, length, drop, Option}
use Rattle.std.specs.Prelude.{Some, None, codes}
use Rattle.std.specs.List.{list_all}
use Rattle.std.specs.Char.{is_ascii_digit, is_ascii_hexdigit}
use Rattle.unicode_ident.specs.Ident.{is_xid_continue}
use Rattle.pp_tokens.specs.declared.token.TokenKind.{TokenKind}
use Rattle.pp_tokens.specs.declared.token.TokenKind.TheVariants.{Name, Word, Number, Hex, Op, Mark, Hole, Newline, End}
use Rattle.pp_tokens.specs.Characters.{is_line_feed, is_blank, starts_name, goes_on_with, goes_on, goes_on_name}
use Rattle.pp_tokens.specs.Characters.{opens_block, closes_block}
use Rattle.pp_tokens.specs.Cutting.{Part, written}
use Rattle.pp_tokens.specs.Numbers.{value, is_end}
use Rattle.pp_tokens.specs.Operators.{operator_text, runs_on, mark_text}
use Rattle.pp_tokens.specs.Words.{word_text, word_of}

-- white space that ends no line is one character
pub record IsWhite (xs : List ℕ) : Type 0 where
  pub character : ℕ
  pub whole : xs ≡ character ∷ []
  pub blank : is_blank character ≡ true

-- a line comment runs from `//` up to the next line feed, or to the end
pub record IsLineComment (xs after : List ℕ) : Type 0 where
  pub opening : xs ≡ 47 ∷ 47 ∷ drop 2 xs
  pub one_line : list_all (λ c. not (is_line_feed c)) xs ≡ true
  pub longest : goes_on_with (λ c. not (is_line_feed c)) after ≡ false

-- From behind a `/*` up to behind its `*/`: IsBody ts us says that ts goes on, up to us, with the rest of a block
-- comment, in which block comments nest.
pub data IsBody : List ℕ → List ℕ → Type 0 where
  closing : (us : List ℕ) → IsBody (42 ∷ 47 ∷ us) us
  nested : (ts vs us : List ℕ) → IsBody ts vs → IsBody vs us → IsBody (47 ∷ 42 ∷ ts) us
  other : (c : ℕ) (ts us : List ℕ) → opens_block c ts ≡ false → closes_block c ts ≡ false → IsBody ts us
      → IsBody (c ∷ ts) us

-- a block comment
pub record IsBlockComment (xs after : List ℕ) : Type 0 where
  pub opening : xs ≡ 47 ∷ 42 ∷ drop 2 xs
  pub body : IsBody (drop 2 xs ++ after) after

-- the longest run at its place of characters that spell a name, a reserved word or a lone underscore
pub record IsLongestName (xs after : List ℕ) : Type 0 where
  pub starts : goes_on_with starts_name xs ≡ true
  pub continues : list_all is_xid_continue (drop 1 xs) ≡ true
  pub longest : goes_on_name after ≡ false

-- A decimal number: all digits at its place, without a leading zero; it is at most 2147483648, and what follows may
-- follow a number.
pub record IsDecimal (v : ℕ) (xs after : List ℕ) : Type 0 where
  pub some : 1 ≤ length xs
  pub digits : list_all is_ascii_digit xs ≡ true
  pub no_leading_zero : goes_on 48 xs ≡ true → length xs ≡ 1
  pub value_is : v ≡ value 10 xs
  pub small : v ≤ 2147483648
  pub ends : is_end after ≡ true

-- a hexadecimal number: `0x` or `0X` and all hexadecimal digits at their place
pub record IsHexadecimal (v : ℕ) (xs after : List ℕ) : Type 0 where
  pub opening : (xs ≡ 48 ∷ 120 ∷ drop 2 xs) ⊎ (xs ≡ 48 ∷ 88 ∷ drop 2 xs)
  pub some : 3 ≤ length xs
  pub digits : list_all is_ascii_hexdigit (drop 2 xs) ≡ true
  pub value_is : v ≡ value 16 (drop 2 xs)
  pub small : v ≤ 0xFFFFFFFF
  pub ends : is_end after ≡ true

-- the run of operator characters goes on with each of these characters
abbrev pub AllRunOn : List ℕ → List ℕ → Type 0
AllRunOn [] after = Unit {0}
AllRunOn (x ∷ xs) after = (runs_on x (xs ++ after) ≡ true) × AllRunOn xs after

-- .. and not with what follows
abbrev pub run_goes_on : List ℕ → Bool
run_goes_on [] = false
run_goes_on (c ∷ cs) = runs_on c cs

-- the whole run of operator characters at its place that stops before a comment
pub record IsWholeRun (xs after : List ℕ) : Type 0 where
  pub runs : AllRunOn xs after
  pub stops : run_goes_on after ≡ false

-- the characters are the token, before what follows
abbrev pub IsToken : TokenKind → List ℕ → List ℕ → Type 0
IsToken Name xs after = IsLongestName xs after × (word_of xs ≡ None) × (xs ≢ codes "_")
IsToken (Word w) xs after = IsLongestName xs after × (xs ≡ word_text w)
IsToken Hole xs after = IsLongestName xs after × (xs ≡ codes "_")
IsToken (Number v) xs after = IsDecimal v xs after
IsToken (Hex v) xs after = IsHexadecimal v xs after
IsToken (Op o) xs after = IsWholeRun xs after × (xs ≡ operator_text o)
IsToken (Mark b) xs after = xs ≡ mark_text b
IsToken Newline xs after = xs ≡ 10 ∷ []
IsToken End xs after = ⊥

-- the characters are a part of this kind, before what follows
abbrev pub IsPart : Option TokenKind → List ℕ → List ℕ → Type 0
IsPart None xs after = IsWhite xs ⊎ IsLineComment xs after ⊎ IsBlockComment xs after
IsPart (Some kind) xs after = IsToken kind xs after

-- each part is right where it stands, before the parts behind it and what follows them
abbrev pub AreRight : List Part → List ℕ → Type 0
AreRight [] rest = Unit {0}
AreRight (p ∷ ps) rest = IsPart p.kind p.text (written ps ++ rest) × AreRight ps rest

-- the characters are these parts, one after another, and then the rest
pub record IsLaidOut (cs : List ℕ) (ps : List Part) (rest : List ℕ) : Type 0 where
  pub whole : written ps ++ rest ≡ cs
  pub right : AreRight ps rest

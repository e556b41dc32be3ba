-- A line, and a line that stands under that of a function. Source: own.
use Rattle.std.specs.Prelude.{◌≡◌, ◌≢◌, ℕ, ◌++◌, Contains, codes}
use Rattle.pp_print.specs.Heads.{IsIndented}
use Rattle.pp_print.specs.Values.{Text}

abbrev pub HasNoNewline : Text → Type 0
HasNoNewline text = (b : ℕ) → Contains text b → b ≢ 10

-- a text that ends in its only newline
pub record IsOneLine (line : Text) : Type 0 where
  pub words : Text
  pub plain : HasNoNewline words
  pub ended : line ≡ words ++ codes "\n"

-- it belongs to the head above it, whatever it says
pub record StandsUnder (line : Text) : Type 0 where
  pub one : IsOneLine line
  pub indented : IsIndented line

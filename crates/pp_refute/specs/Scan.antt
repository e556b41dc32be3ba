-- What a reader of a line has after each byte. (own)
use Rattle.std.specs.Prelude.{ℕ, ◌+◌, ◌-◌, ◌*◌, ◌^◌, ◌==◌, ◌&&◌, Bool, true, false, not, List, [], ◌∷◌, ◌++◌, Option}
use Rattle.std.specs.Prelude.{Some, None, nat_lt, nat_le, fold, if◌then◌else◌}
use Rattle.pp_clause.specs.Literal.{Literal}

-- the literals and chain numbers that are read, whether the arrow was met, and what is known of the word
-- that is being read: its sign, and its number, if it has a digit
pub record Scan : Type 0 where
  pub lits : List Literal
  pub numbers : List ℕ
  pub arrow : Bool
  pub negative : Bool
  pub pending : Option ℕ

abbrev pub scan_start : Scan
scan_start = record { lits = []; numbers = []; arrow = false; negative = false; pending = None }

-- the number with one more digit; a number past all limits stays as it is
abbrev pub with_digit : Option ℕ → ℕ → ℕ
with_digit None d = d
with_digit (Some n) d = if nat_lt n (2 ^ 32) then n * 10 + d else n

abbrev pub lits_of : Option ℕ → Bool → List Literal
lits_of None negative = []
lits_of (Some n) negative =
    if nat_le 1 n && nat_le n (2 ^ 30) then record { var = n; positive = not negative } ∷ [] else []

abbrev pub numbers_of : Option ℕ → List ℕ
numbers_of None = []
numbers_of (Some n) = if nat_lt n (2 ^ 32) then n ∷ [] else []

-- at the end of a word: it is a literal before the arrow, and a chain number after it
abbrev pub word_end : Scan → Scan
word_end s = record {
  lits = if s.arrow then s.lits else s.lits ++ lits_of s.pending s.negative;
  numbers = if s.arrow then s.numbers ++ numbers_of s.pending else s.numbers;
  arrow = s.arrow;
  negative = false;
  pending = None;
}

abbrev pub scan_digit : Scan → ℕ → Scan
scan_digit s d = record s { pending = Some (with_digit s.pending d) }

abbrev pub scan_step : Scan → ℕ → Scan
scan_step s b =
    if nat_le 48 b && nat_le b 57 then scan_digit s (b - 48)
    else if b == 45 then record s { negative = true }
    else if b == 60 then record s { arrow = true }
    else word_end s

abbrev pub scan_of : Scan → List ℕ → Scan
scan_of s bytes = fold scan_step s bytes

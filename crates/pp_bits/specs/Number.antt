-- The numbers that lists of literals stand for, the lowest literal first, where an assignment `s` gives each variable a
-- truth value. Nothing here depends on the length of the lists. (own; binary numerals and two's complement)
use Rattle.std.specs.Prelude.{◌≡◌, ℕ, ◌+◌, ◌-◌, ◌*◌, ◌^◌, Bool, true, false, List, [], ◌∷◌, if◌then◌else◌, nat_lt, All}
use Rattle.std.specs.Prelude.{length, ℤ, pos, neg_ℤ}
use Rattle.pp_clause.specs.Literal.{Literal, lit_value}
use Rattle.pp_gate.specs.declared.gate.Gate.{Gate}
use Rattle.pp_gate.specs.Circuit.{IsOf, Gives}

-- true as 1, and false as 0
abbrev pub bit : Bool → ℕ
bit true = 1
bit false = 0

-- a literal as 1 or 0
abbrev pub lit_bit : (ℕ → Bool) → Literal → ℕ
lit_bit s l = bit (lit_value s l)

-- the natural number of which the literals are the binary digits, the lowest first
unfoldable pub nat_of : (ℕ → Bool) → List Literal → ℕ
nat_of s [] = 0
nat_of s (l ∷ ls) = bit (lit_value s l) + 2 * nat_of s ls

-- the integer of which v has the n digits in two's complement: the highest digit counts -2^(n - 1)
abbrev pub signed_of : ℕ → ℕ → ℤ
signed_of n v = if nat_lt v (2 ^ (n - 1)) then pos v else neg_ℤ (pos (2 ^ n - v))

-- n literals of the circuit, which stand for this number under each assignment that gives each gate its value
pub record StandsForNumber (gs : List Gate) (n : ℕ) (ls : List Literal) (meaning : (ℕ → Bool) → ℕ) : Type 0 where
  pub len : length ls ≡ n
  pub of : All (IsOf gs) ls
  pub value : (s : ℕ → Bool) → Gives s gs → nat_of s ls ≡ meaning s

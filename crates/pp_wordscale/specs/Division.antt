-- What a quotient or a remainder stands for, by the magnitudes of integers in two's complement. Source: JLS 15.17.2 and
-- 15.17.3.
use Rattle.std.specs.Prelude.{◌≡◌, ◌≢◌, ℕ, ◌+◌, ◌-◌, ◌*◌, ◌%◌, ◌^◌, Bool, if◌then◌else◌, nat_le, List, All, length, ℤ}
use Rattle.std.specs.Prelude.{pos}
use Rattle.std.specs.Int.{Width}
use Rattle.pp_clause.specs.Literal.{Literal}
use Rattle.pp_gate.specs.declared.gate.Gate.{Gate}
use Rattle.pp_gate.specs.Circuit.{IsOf, Gives}
use Rattle.pp_wordgate.specs.Meaning.{word_of}
use mir.Val.{bits}

-- the magnitude of the integer of which v has the n digits in two's complement
abbrev pub magnitude_of : ℕ → ℕ → ℕ
magnitude_of n v = if nat_le (2 ^ (n - 1)) v then (2 ^ n - v) % 2 ^ n else v

-- the most gates that a division of integers of n digits adds
abbrev pub division_gates : ℕ → ℕ
division_gates n = (5 * n + 16) * n + 1

-- as many literals of the circuit as a has, which stand at the width of so many bits for what the operation makes of a
-- and b, where b isn't 0
pub record StandsForDivision (operation : Width → ℤ → ℤ → ℤ) (gs : List Gate) (a b r : List Literal) : Type 0 where
  pub len : length r ≡ length a
  pub of : All (IsOf gs) r
  pub value : (w : Width) → length a ≡ bits w → (s : ℕ → Bool) → Gives s gs → word_of w s b ≢ pos 0
      → word_of w s r ≡ operation w (word_of w s a) (word_of w s b)

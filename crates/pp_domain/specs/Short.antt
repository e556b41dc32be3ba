-- Short words: words of 32 digits of which the upper ones are all alike, as the digits of a small integer in two's
-- complement are. A name is such a word, so that few inputs tell few values apart. (own)
use Rattle.std.specs.Prelude.{◌≡◌, ◌⊎◌, ℕ, ◌+◌, ◌<◌, ◌≤◌, ◌^◌, Bool, List, All, length}
use Rattle.pp_clause.specs.Literal.{Literal}
use Rattle.pp_gate.specs.declared.gate.Gate.{Gate}
use Rattle.pp_gate.specs.Circuit.{Gives, IsOf}
use Rattle.pp_bits.specs.Inputs.{ChosenNumber}

-- all digits of the number from the one at this place on are alike: it is small, or small below 2^32
abbrev pub IsShort : ℕ → ℕ → Type 0
IsShort low v = (v < 2 ^ low) ⊎ ((2 ^ 32 ≤ v + 2 ^ low) × (v < 2 ^ 32))

-- 32 literals of inputs that came in after the old gates, which can be chosen so that they stand for each such number
pub record IsShortWord (gs hs : List Gate) (low : ℕ) (r : List Literal) : Type 0 where
  pub len : length r ≡ 32
  pub of : All (IsOf hs) r
  pub fresh : All (λ l. length gs < l.var) r
  pub chosen : (a : ℕ → Bool) → Gives a gs → (v : ℕ) → IsShort low v → ChosenNumber gs hs a r v

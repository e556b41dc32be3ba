-- The integers that words stand for, where an assignment `s` gives each variable a truth value: the literals are the
-- bits in two's complement, the lowest first, as many as the width has. (own; JLS 4.2)
use Rattle.std.specs.Prelude.{◌≡◌, ℕ, Bool, List, All, length, ℤ}
use Rattle.std.specs.Int.{Width, cast_signed}
use Rattle.pp_clause.specs.Literal.{Literal}
use Rattle.pp_gate.specs.declared.gate.Gate.{Gate}
use Rattle.pp_gate.specs.Circuit.{IsOf, Gives}
use Rattle.pp_gate.specs.Laws.{AgreeUpTo}
use Rattle.pp_bits.specs.Number.{nat_of}
use mir.Val.{bits}

unfoldable pub word_of : Width → (ℕ → Bool) → List Literal → ℤ
word_of w s ls = cast_signed w (nat_of s ls)

-- a word of the circuit, which stands for this integer under each assignment that gives each gate its value
pub record StandsForWord (w : Width) (gs : List Gate) (ls : List Literal) (meaning : (ℕ → Bool) → ℤ) : Type 0 where
  pub len : length ls ≡ bits w
  pub of : All (IsOf gs) ls
  pub value : (s : ℕ → Bool) → Gives s gs → word_of w s ls ≡ meaning s

-- an assignment that agrees with `s` on the old variables and gives each gate its value, under which the word stands
-- for v
pub record ChosenWord (w : Width) (old new : List Gate) (s : ℕ → Bool) (ls : List Literal) (v : ℤ) : Type 0 where
  pub assignment : ℕ → Bool
  pub gives : Gives assignment new
  pub keeps : AgreeUpTo (length old) s assignment
  pub value : word_of w assignment ls ≡ v

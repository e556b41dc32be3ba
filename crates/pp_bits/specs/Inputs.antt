-- Numbers of fresh inputs. (own)
use Rattle.std.specs.Prelude.{◌≡◌, ℕ, ◌+◌, ◌<◌, Bool, List, All, length}
use Rattle.pp_clause.specs.Literal.{Literal}
use Rattle.pp_gate.specs.declared.gate.Gate.{Gate}
use Rattle.pp_gate.specs.Circuit.{IsOf, IsInput, Gives}
use Rattle.pp_gate.specs.Laws.{AgreeUpTo}
use Rattle.pp_bits.specs.Number.{nat_of}

-- n literals of inputs that came in after the old gates, and nothing else did
pub record AreInputs (old new : List Gate) (n : ℕ) (ls : List Literal) : Type 0 where
  pub len : length ls ≡ n
  pub count : length new ≡ length old + n
  pub of : All (IsOf new) ls
  pub inputs : All (λ l. IsInput new l.var) ls
  pub fresh : All (λ l. length old < l.var) ls

-- an assignment that agrees with `s` on the old variables and gives each gate its value, under which the literals stand
-- for v
pub record ChosenNumber (old new : List Gate) (s : ℕ → Bool) (ls : List Literal) (v : ℕ) : Type 0 where
  pub assignment : ℕ → Bool
  pub gives : Gives assignment new
  pub keeps : AgreeUpTo (length old) s assignment
  pub number : nat_of assignment ls ≡ v

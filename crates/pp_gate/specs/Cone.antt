-- The gates that literals stand on, and the assignments that give these their values. (own; the cone of influence)
use Rattle.std.specs.Prelude.{◌≡◌, ℕ, ◌+◌, Bool, List, slice_get, Some, Contains, All}
use Rattle.pp_clause.specs.Literal.{Literal}
use Rattle.pp_gate.specs.declared.gate.Gate.{Gate}
use Rattle.pp_gate.specs.Gate.{gate_value, operands}
use Rattle.pp_gate.specs.Circuit.{Gives, IsCircuit, IsOf}
use Rattle.pp_gate.specs.Laws.{AgreeOnInputs}

-- the variable is that of a literal that is asked for, or its gate is one on which such a literal stands
pub data StandsOn (gs : List Gate) (asked : List Literal) : ℕ → Type 0 where
  asked_for : (l : Literal) → Contains asked l → StandsOn gs asked l.var
  operand : (k : ℕ) (g : Gate) (l : Literal) → StandsOn gs asked (k + 1) → slice_get gs k ≡ Some g
      → Contains (operands g) l → StandsOn gs asked l.var

-- the assignment gives each gate on which the literals stand its value
pub record GivesAsked (s : ℕ → Bool) (gs : List Gate) (asked : List Literal) : Type 0 where
  pub gives : (k : ℕ) (g : Gate) → slice_get gs k ≡ Some g → StandsOn gs asked (k + 1) → s (k + 1) ≡ gate_value s g

-- an assignment that gives each gate its value, with the inputs of `s`, and what `s` has for that on which the literals
-- stand
pub record CompletedAsked (gs : List Gate) (asked : List Literal) (s : ℕ → Bool) : Type 0 where
  pub assignment : ℕ → Bool
  pub gives : Gives assignment gs
  pub inputs : AgreeOnInputs gs s assignment
  pub keeps : (x : ℕ) → StandsOn gs asked x → s x ≡ assignment x

-- an assignment that gives each gate its value gives these theirs
abbrev pub AskedGiven : Type 0
AskedGiven = (s : ℕ → Bool) (gs : List Gate) (asked : List Literal) → Gives s gs → GivesAsked s gs asked

-- and one that gives these theirs can be completed to one that gives each gate its value
abbrev pub AskedComplete : Type 0
AskedComplete = (gs : List Gate) → IsCircuit gs → (asked : List Literal) (s : ℕ → Bool)
    → All (IsOf gs) asked → GivesAsked s gs asked → CompletedAsked gs asked s

-- whichever that has the same inputs: what the literals stand on has the same values under it
abbrev pub AskedKeep : Type 0
AskedKeep = (gs : List Gate) → IsCircuit gs → (asked : List Literal) (s t : ℕ → Bool)
    → All (IsOf gs) asked → GivesAsked s gs asked → Gives t gs → AgreeOnInputs gs s t → (x : ℕ) → StandsOn gs asked x
    → s x ≡ t x

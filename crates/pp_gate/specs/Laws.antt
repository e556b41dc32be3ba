-- What holds of the assignments of every circuit. (own; the usual facts on circuits without cycles)
use Rattle.std.specs.Prelude.{◌≡◌, ℕ, ◌≤◌, ◌<◌, Bool, List, length}
use Rattle.pp_clause.specs.Literal.{Literal, lit_value}
use Rattle.pp_gate.specs.declared.gate.Gate.{Gate}
use Rattle.pp_gate.specs.Circuit.{IsCircuit, Gives, IsInput, IsOf}
use Rattle.pp_gate.specs.Growth.{Grows}

-- the two assignments agree on the variables from 1 to n
pub record AgreeUpTo (n : ℕ) (s t : ℕ → Bool) : Type 0 where
  pub agree : (x : ℕ) → 1 ≤ x → x ≤ n → s x ≡ t x

-- the two assignments agree on the inputs
pub record AgreeOnInputs (gs : List Gate) (s t : ℕ → Bool) : Type 0 where
  pub agree : (x : ℕ) → IsInput gs x → s x ≡ t x

-- an assignment that gives each gate its value, and the inputs those values
pub record Completed (gs : List Gate) (values : ℕ → Bool) : Type 0 where
  pub assignment : ℕ → Bool
  pub gives : Gives assignment gs
  pub inputs : AgreeOnInputs gs values assignment

-- an assignment that agrees with `s` on the old variables, and gives each gate its value and the new inputs those
-- values
pub record Extended (old new : List Gate) (s values : ℕ → Bool) : Type 0 where
  pub assignment : ℕ → Bool
  pub gives : Gives assignment new
  pub keeps : AgreeUpTo (length old) s assignment
  pub inputs : (x : ℕ) → length old < x → IsInput new x → values x ≡ assignment x

-- every choice of values for the inputs has an assignment that gives each gate its value
abbrev pub InputsComplete : Type 0
InputsComplete = (gs : List Gate) → IsCircuit gs → (values : ℕ → Bool) → Completed gs values

-- two assignments that give each gate its value and agree on the inputs agree on every variable
abbrev pub InputsDetermine : Type 0
InputsDetermine = (gs : List Gate) → IsCircuit gs → (s t : ℕ → Bool)
    → Gives s gs → Gives t gs → AgreeOnInputs gs s t → AgreeUpTo (length gs) s t

-- each assignment that gives the old gates their values can be extended to the new ones, with any values for the new
-- inputs
abbrev pub GrowthExtends : Type 0
GrowthExtends = (old new : List Gate) (n : ℕ) → Grows old new n → IsCircuit new → (s values : ℕ → Bool)
    → Gives s old → Extended old new s values

-- an assignment that gives the new gates their values gives the old ones theirs
abbrev pub GrowthKeeps : Type 0
GrowthKeeps = (old new : List Gate) (n : ℕ) → Grows old new n → (s : ℕ → Bool) → Gives s new → Gives s old

-- whether an assignment gives each gate its value depends on the variables of the circuit alone
abbrev pub GivesByVariables : Type 0
GivesByVariables = (gs : List Gate) → IsCircuit gs → (s t : ℕ → Bool)
    → AgreeUpTo (length gs) s t → Gives s gs → Gives t gs

-- and so does the value of a literal of the circuit
abbrev pub LiteralByVariables : Type 0
LiteralByVariables = (gs : List Gate) (l : Literal) → IsOf gs l → (s t : ℕ → Bool)
    → AgreeUpTo (length gs) s t → lit_value s l ≡ lit_value t l

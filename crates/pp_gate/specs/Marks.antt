-- Marks on variables: at place k, whether variable k + 1 is marked. They are read as an assignment. (own)
use Rattle.std.specs.Prelude.{◌≡◌, ◌⊎◌, ℕ, ◌+◌, ◌≤◌, Bool, true, List, length, slice_get, Some, Contains}
use Rattle.pp_clause.specs.Literal.{Literal}
use Rattle.pp_clause.specs.Assignment.{assigned}
use Rattle.pp_gate.specs.declared.gate.Gate.{Gate}
use Rattle.pp_gate.specs.Gate.{gate_value}
use Rattle.pp_gate.specs.Cone.{StandsOn}

-- the variable is that of a literal of the list
abbrev pub IsVariableIn : List Literal → ℕ → Type 0
IsVariableIn ls x = (l : Literal) × Contains ls l × (x ≡ l.var)

-- besides what was marked the variables of these literals are
pub record Marks (old new : List Bool) (ls : List Literal) : Type 0 where
  pub len : length new ≡ length old
  pub stays : (x : ℕ) → assigned old x ≡ true → assigned new x ≡ true
  pub these : (l : Literal) → Contains ls l → assigned new l.var ≡ true
  pub only : (x : ℕ) → 1 ≤ x → assigned new x ≡ true → (assigned old x ≡ true) ⊎ IsVariableIn ls x

-- exactly the variables on which the literals stand are marked
pub record IsCone (gs : List Gate) (asked : List Literal) (marks : List Bool) : Type 0 where
  pub len : length marks ≡ length gs
  pub every : (x : ℕ) → StandsOn gs asked x → assigned marks x ≡ true
  pub only : (x : ℕ) → 1 ≤ x → assigned marks x ≡ true → StandsOn gs asked x

-- the assignment gives each marked gate its value
pub record GivesMarked (s : ℕ → Bool) (gs : List Gate) (marks : List Bool) : Type 0 where
  pub gives : (k : ℕ) (g : Gate) → slice_get gs k ≡ Some g → assigned marks (k + 1) ≡ true → s (k + 1) ≡ gate_value s g

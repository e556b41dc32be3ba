-- How a circuit grows. (own)
use Rattle.std.specs.Prelude.{◌≡◌, ℕ, ◌≤◌, List, ◌++◌, length}
use Rattle.pp_clause.specs.Literal.{Literal}
use Rattle.pp_gate.specs.declared.gate.Gate.{Gate}
use Rattle.pp_gate.specs.Circuit.{IsCircuit, IsInput, IsOf}

-- the old gates stay where they are, and at most n come after them
pub record Grows (old new : List Gate) (n : ℕ) : Type 0 where
  pub added : List Gate
  pub is : new ≡ old ++ added
  pub most : length added ≤ n

-- what a call leaves: the old gates stay and at most n come after them, none of which is an input; what stands is a
-- circuit, and has the literals of the old one
pub record AddsGates (old new : List Gate) (n : ℕ) : Type 0 where
  pub grows : Grows old new n
  pub inputs : (x : ℕ) → IsInput new x → IsInput old x
  pub circuit : IsCircuit new
  pub literals : (l : Literal) → IsOf old l → IsOf new l

-- Lists of gates that are circuits, and what an assignment makes of them. The gate at place k, counted
-- from 0, is that of variable k + 1. (own; circuits as in propositional logic)
use Rattle.std.specs.Prelude.{◌≡◌, ℕ, ◌+◌, ◌-◌, ◌≤◌, Bool, List, length, slice_get, Some}
use Rattle.pp_clause.specs.Literal.{Literal, lit_value}
use Rattle.pp_gate.specs.declared.gate.Gate.{Gate}
use Rattle.pp_gate.specs.declared.gate.Gate.TheVariants.{Truth, Input, And, Xor, Mux, Majority}
use Rattle.pp_gate.specs.Gate.{gate_value}

-- the variable of the literal is one of the first n
pub record IsWithin (n : ℕ) (l : Literal) : Type 0 where
  pub least : 1 ≤ l.var
  pub most : l.var ≤ n

-- the literal is of the circuit
abbrev pub IsOf : List Gate → Literal → Type 0
IsOf gs l = IsWithin (length gs) l

-- what the gate of variable n + 1 may hold: an input its own variable, the others literals of earlier variables
abbrev pub FitsAfter : ℕ → Gate → Type 0
FitsAfter n Truth = Unit {0}
FitsAfter n (Input x) = x ≡ n + 1
FitsAfter n (And a b) = IsWithin n a × IsWithin n b
FitsAfter n (Xor a b) = IsWithin n a × IsWithin n b
FitsAfter n (Mux c a b) = IsWithin n c × (IsWithin n a × IsWithin n b)
FitsAfter n (Majority a b c) = IsWithin n a × (IsWithin n b × IsWithin n c)

-- a circuit: the constant stands first, each gate has literals of earlier variables, and no two are alike
pub record IsCircuit (gs : List Gate) : Type 0 where
  pub first : slice_get gs 0 ≡ Some Truth
  pub fits : (k : ℕ) (g : Gate) → slice_get gs k ≡ Some g → FitsAfter k g
  pub apart : (j k : ℕ) (g : Gate) → slice_get gs j ≡ Some g → slice_get gs k ≡ Some g → j ≡ k

-- the assignment gives each gate its value
pub record Gives (s : ℕ → Bool) (gs : List Gate) : Type 0 where
  pub gives : (k : ℕ) (g : Gate) → slice_get gs k ≡ Some g → s (k + 1) ≡ gate_value s g

-- the variable is an input
pub record IsInput (gs : List Gate) (x : ℕ) : Type 0 where
  pub stands : slice_get gs (x - 1) ≡ Some (Input x)

-- the literal is of the circuit, and has this value under each assignment that gives each gate its value
pub record StandsFor (gs : List Gate) (l : Literal) (meaning : (ℕ → Bool) → Bool) : Type 0 where
  pub of : IsOf gs l
  pub value : (s : ℕ → Bool) → Gives s gs → lit_value s l ≡ meaning s

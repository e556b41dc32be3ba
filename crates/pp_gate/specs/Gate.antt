-- Gates: what they stand on, and the value that they have. (own; the usual words of propositional logic)
use Rattle.std.specs.Prelude.{ℕ, Bool, true, not, ◌&&◌, ◌||◌, if◌then◌else◌, List, [], ◌∷◌}
use Rattle.pp_clause.specs.Literal.{Literal, lit_value}
use Rattle.pp_gate.specs.declared.gate.Gate.{Gate}
use Rattle.pp_gate.specs.declared.gate.Gate.TheVariants.{Truth, Input, And, Xor, Mux, Majority}

-- exactly one of the two is true
abbrev pub xor_of : Bool → Bool → Bool
xor_of a b = if a then not b else b

-- at least two of the three are true
abbrev pub majority_of : Bool → Bool → Bool → Bool
majority_of a b c = if a then (b || c) else (b && c)

-- the value of a gate, where the assignment `s` gives each variable a truth value; an input has the value of its own
-- variable
abbrev pub gate_value : (ℕ → Bool) → Gate → Bool
gate_value s Truth = true
gate_value s (Input x) = s x
gate_value s (And a b) = lit_value s a && lit_value s b
gate_value s (Xor a b) = xor_of (lit_value s a) (lit_value s b)
gate_value s (Mux c a b) = if lit_value s c then lit_value s a else lit_value s b
gate_value s (Majority a b c) = majority_of (lit_value s a) (lit_value s b) (lit_value s c)

-- the literals that a gate stands on: its value depends on theirs alone
abbrev pub operands : Gate → List Literal
operands Truth = []
operands (Input x) = []
operands (And a b) = a ∷ b ∷ []
operands (Xor a b) = a ∷ b ∷ []
operands (Mux c a b) = c ∷ a ∷ b ∷ []
operands (Majority a b c) = a ∷ b ∷ c ∷ []

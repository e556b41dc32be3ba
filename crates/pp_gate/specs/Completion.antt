-- How an assignment is completed, a gate at a time. (own)
use Rattle.std.specs.Prelude.{ℕ, Bool}
use Rattle.pp_gate.specs.declared.gate.Gate.{Gate}
use Rattle.pp_gate.specs.declared.gate.Gate.TheVariants.{Truth, Input, And, Xor, Mux, Majority}
use Rattle.pp_gate.specs.Gate.{gate_value}

-- the value of the next gate, where `s` has those of the variables before it and `inputs` that of an input
abbrev pub next_value : (ℕ → Bool) → (ℕ → Bool) → Gate → Bool
next_value s inputs (Input x) = inputs x
next_value s inputs Truth = gate_value s Truth
next_value s inputs (And a b) = gate_value s (And a b)
next_value s inputs (Xor a b) = gate_value s (Xor a b)
next_value s inputs (Mux c a b) = gate_value s (Mux c a b)
next_value s inputs (Majority a b c) = gate_value s (Majority a b c)

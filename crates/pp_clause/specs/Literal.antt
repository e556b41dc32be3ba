-- A literal and its truth value. (own; the usual words of propositional logic)
use Rattle.std.specs.Prelude.{ℕ, Bool, not, ◌≤◌, ◌^◌, if◌then◌else◌}

-- a variable, and whether the literal is the variable itself or its negation
pub record Literal : Type 0 where
  pub var : ℕ
  pub positive : Bool

-- the negation of a literal: the same variable with the other sign
abbrev pub opposite : Literal → Literal
opposite l = record { var = l.var; positive = not l.positive }

-- the truth value of a literal, where the assignment `s` gives each variable a truth value
abbrev pub lit_value : (ℕ → Bool) → Literal → Bool
lit_value s l = if l.positive then s l.var else not (s l.var)

-- the variables of literals are the numbers from 1 to 2^30
abbrev pub IsVariable : ℕ → Type 0
IsVariable x = (1 ≤ x) × (x ≤ 2 ^ 30)

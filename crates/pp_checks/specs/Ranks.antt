-- The rank of a function: how many functions its cone has. Source: own.
use Rattle.std.specs.Prelude.{◌≡◌, ◌⊎◌, ◌+◌, ℕ, zero, suc, List, length}
use Rattle.pp_prog.specs.declared.expr.Function.{Function}
use Rattle.pp_prog.specs.Cone.{InCone}

-- exactly k of the numbers below n are in the set
abbrev pub CountBelow : (ℕ → Type 0) → ℕ → ℕ → Type 0
CountBelow P zero k = k ≡ 0
CountBelow P (suc n) k = (P n × ((m : ℕ) × CountBelow P n m × (k ≡ m + 1))) ⊎ ((P n → ⊥) × CountBelow P n k)

-- the cone of f has r functions
abbrev pub IsRank : List Function → ℕ → ℕ → Type 0
IsRank functions f r = CountBelow (InCone functions f) (length functions) r

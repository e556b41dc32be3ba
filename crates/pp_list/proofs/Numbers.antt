-- Steps of counts.
use Rattle.std.proofs.Common.{◌≤◌, ℕ, suc, arith}

-- one less on both sides
pub less_one : (h k : ℕ) → suc h ≤ suc k → h ≤ k
less_one h k le = omega arith

-- no number is below zero
pub none_below : (n : ℕ) → 0 ≤ n
none_below n = omega arith

-- Quotient and remainder of natural numbers. (own; Euclid's division)
use Rattle.std.specs.Prelude.{◌≡◌, ℕ, ◌+◌, ◌*◌, ◌<◌}

-- q is the quotient of n by d, and r the remainder
pub record Divides (n d q r : ℕ) : Type 0 where
  pub whole : q * d + r ≡ n
  pub below : r < d

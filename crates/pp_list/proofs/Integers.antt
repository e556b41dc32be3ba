-- What tests of integers tell, and how they come out.
use Rattle.std.proofs.Common.{◌≡◌, true, arith}
use Rattle.std.specs.Int.RustNames.{int_le, int_lt}
use Rattle.std.proofs.lemmas.Int.{ints}
use lib.Signed.{◌≤ℤ◌, ◌<ℤ◌}
use lib.IntN.{ℤ}

pub at_most : (a b : ℤ) → int_le a b ≡ true → a ≤ℤ b
at_most a b h = grind (arith, ints)

pub less : (a b : ℤ) → int_lt a b ≡ true → a <ℤ b
less a b h = grind (arith, ints)

pub at_most_true : (a b : ℤ) → a ≤ℤ b → int_le a b ≡ true
at_most_true a b h = grind (arith, ints)

pub less_true : (a b : ℤ) → a <ℤ b → int_lt a b ≡ true
less_true a b h = grind (arith, ints)

-- Sums with a part in common compare as their other parts do.
use Rattle.std.proofs.Common.{◌≡◌, arith}
use Rattle.std.specs.Int.RustNames.{int_lt}
use Rattle.std.proofs.lemmas.Int.{ints}
use lib.IntN.{ℤ, ◌+ℤ◌}

-- p = q + r and s = t + u, where q = t
pub rest_less : (p q r s t u : ℤ) → p ≡ q +ℤ r → s ≡ t +ℤ u → q ≡ t → int_lt p s ≡ int_lt r u
rest_less p q r s t u e f g = grind (arith, ints)

-- where r = u
pub part_less : (p q r s t u : ℤ) → p ≡ q +ℤ r → s ≡ t +ℤ u → r ≡ u → int_lt p s ≡ int_lt q t
part_less p q r s t u e f g = grind (arith, ints)

-- where q = u
pub first_less : (p q r s t u : ℤ) → p ≡ q +ℤ r → s ≡ t +ℤ u → q ≡ u → int_lt p s ≡ int_lt r t
first_less p q r s t u e f g = grind (arith, ints)

-- where r = t
pub second_less : (p q r s t u : ℤ) → p ≡ q +ℤ r → s ≡ t +ℤ u → r ≡ t → int_lt p s ≡ int_lt q u
second_less p q r s t u e f g = grind (arith, ints)

-- the first parts, where the second ones are the same
pub sum_less : (p q r s t u : ℤ) → p ≡ q +ℤ r → s ≡ t +ℤ u → r ≡ u → int_lt q t ≡ int_lt p s
sum_less p q r s t u e f g = grind (arith, ints)

-- the first parts, where the sums are the same
pub turned_less : (p q r s t u : ℤ) → p ≡ q +ℤ r → s ≡ t +ℤ u → p ≡ s → int_lt q t ≡ int_lt u r
turned_less p q r s t u e f g = grind (arith, ints)

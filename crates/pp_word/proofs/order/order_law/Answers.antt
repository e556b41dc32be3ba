use Rattle.pp_word.proofs.order.order_law.Goals as goal
use Rattle.std.proofs.Common.{◌≡◌, suc, ◌-◌, ◌+◌, sym, arith}
use Rattle.std.proofs.lemmas.Int.{ints}
use Rattle.pp_word.specs.Order.{IsLess, IsAtMost}
use lib.IntN.{ℤ, pos, negsuc}
use lib.Signed.{lt_z, le_z}
use mathlib.Core.Bool.{true}

distance_less : (a b : ℤ) → lt_z a b ≡ true → IsLess a b
distance_less (pos a) (pos b) h = (b - suc a, omega (arith, ints, h))
distance_less (pos a) (negsuc b) h = absurd (omega (arith, ints, h))
distance_less (negsuc a) (pos b) h = (a + b, omega (arith, ints, h))
distance_less (negsuc a) (negsuc b) h = (a - suc b, omega (arith, ints, h))

distance_at_most : (a b : ℤ) → le_z a b ≡ true → IsAtMost a b
distance_at_most (pos a) (pos b) h = (b - a, omega (arith, ints, h))
distance_at_most (pos a) (negsuc b) h = absurd (omega (arith, ints, h))
distance_at_most (negsuc a) (pos b) h = (suc (a + b), omega (arith, ints, h))
distance_at_most (negsuc a) (negsuc b) h = (a - b, omega (arith, ints, h))

pub returns-clause-less : goal.returns-clause-less
returns-clause-less c = λ a b. (distance_less a b, λ h. let e : true ≡ lt_z a b = omega (arith, ints, h) in sym e)

pub returns-clause-at_most : goal.returns-clause-at_most
returns-clause-at_most c = λ a b. (distance_at_most a b, λ h. let e : true ≡ le_z a b = omega (arith, ints, h) in sym e)

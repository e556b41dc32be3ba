use Rattle.std.proofs.Common.{length}
use Rattle.pp_products.proofs.quotient.+divide_digits.Given as goal

abbrev pub decreases-divide_digits : goal.decreases-divide_digits
decreases-divide_digits l = length l.a.now

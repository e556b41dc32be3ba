use Rattle.std.proofs.Common.{length}
use Rattle.pp_products.proofs.digits.+some_digit.Given as goal

abbrev pub decreases-some_digit : goal.decreases-some_digit
decreases-some_digit l = length l.a.now

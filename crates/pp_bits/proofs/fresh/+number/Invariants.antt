use Rattle.std.proofs.Common.{length}
use Rattle.pp_bits.proofs.fresh.+number.Given as goal

abbrev pub decreases-number : goal.decreases-number
decreases-number l = length l.digits.now

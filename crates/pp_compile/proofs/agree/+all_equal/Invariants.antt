use Rattle.std.proofs.Common.{length}
use Rattle.pp_compile.proofs.agree.+all_equal.Given as goal

abbrev pub decreases-all_equal : goal.decreases-all_equal
decreases-all_equal l = length l.xs.now

use Rattle.std.proofs.Common.{length}
use Rattle.pp_closure.proofs.alike.+all_same.Given as goal

abbrev pub decreases-all_same : goal.decreases-all_same
decreases-all_same l = length l.xs.now

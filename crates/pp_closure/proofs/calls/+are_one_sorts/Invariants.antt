use Rattle.std.proofs.Common.{length}
use Rattle.pp_closure.proofs.calls.+are_one_sorts.Given as goal

abbrev pub decreases-are_one_sorts : goal.decreases-are_one_sorts
decreases-are_one_sorts l = length l.xs.now

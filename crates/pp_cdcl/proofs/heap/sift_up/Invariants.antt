use Rattle.std.proofs.Common.{◌<◌, length, All}
use Rattle.pp_cdcl.proofs.heap.sift_up.Given as goal

abbrev pub invariant-loop-at : goal.invariant-loop-at
invariant-loop-at l = All (λ x. x < length l.ranks) l.heap

abbrev pub decreases-loop-at : goal.decreases-loop-at
decreases-loop-at l = l.at

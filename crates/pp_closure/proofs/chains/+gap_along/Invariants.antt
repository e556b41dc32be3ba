use Rattle.std.proofs.Common.{length}
use Rattle.pp_closure.proofs.chains.+gap_along.Given as goal

abbrev pub decreases-gap_along : goal.decreases-gap_along
decreases-gap_along l = length l.chain.now

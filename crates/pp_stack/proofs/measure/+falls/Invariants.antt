use Rattle.std.proofs.Common.{length}
use Rattle.pp_stack.proofs.measure.+falls.Given as goal

abbrev pub decreases-falls : goal.decreases-falls
decreases-falls l = length l.new.now

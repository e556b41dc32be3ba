use Rattle.std.proofs.Common.{length}
use Rattle.pp_stack.proofs.measure.+of_one_shape.Given as goal

abbrev pub decreases-of_one_shape : goal.decreases-of_one_shape
decreases-of_one_shape l = length l.new.now

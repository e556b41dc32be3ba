use Rattle.std.proofs.Common.{length}
use Rattle.pp_compile.proofs.calls.+shape.Given as goal

abbrev pub decreases-shape : goal.decreases-shape
decreases-shape l = length l.new.now

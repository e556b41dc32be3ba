use Rattle.std.proofs.Common.{length}
use Rattle.pp_compile.proofs.run.+any_of.Given as goal

abbrev pub decreases-any_of : goal.decreases-any_of
decreases-any_of l = length l.fails.now

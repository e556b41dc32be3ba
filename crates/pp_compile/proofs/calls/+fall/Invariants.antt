use Rattle.std.proofs.Common.{length}
use Rattle.pp_compile.proofs.calls.+fall.Given as goal

abbrev pub decreases-fall : goal.decreases-fall
decreases-fall l = length l.new.now

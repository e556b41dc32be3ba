use Rattle.std.proofs.Common.{length}
use Rattle.pp_refute.proofs.ReadLines.{Reads}
use Rattle.pp_refute.proofs.reading.read_log.Given as goal

abbrev pub invariant-loop-rest : goal.invariant-loop-rest
invariant-loop-rest l = Reads l.bytes l.log l.rest l.number

abbrev pub decreases-loop-rest : goal.decreases-loop-rest
decreases-loop-rest l = length l.rest

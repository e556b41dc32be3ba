use Rattle.std.proofs.Common.{length}
use Rattle.pp_tokens.proofs.PartsOf.{IsSoFar}
use Rattle.pp_tokens.proofs.cutting.cut.Given as goal

abbrev pub invariant-loop-rest : goal.invariant-loop-rest
invariant-loop-rest l = IsSoFar l.cs l.rest l.at l.out.items

abbrev pub decreases-loop-rest : goal.decreases-loop-rest
decreases-loop-rest l = length l.rest

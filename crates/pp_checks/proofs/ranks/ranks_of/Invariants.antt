use Rattle.std.proofs.Common.{length}
use Rattle.pp_checks.specs.Plan.{AreOf}
use Rattle.pp_checks.specs.Tables.{IsRankIn}
use Rattle.pp_checks.proofs.ranks.ranks_of.Given as goal

abbrev pub invariant-loop-f : goal.invariant-loop-f
invariant-loop-f l = AreOf (λ f r. IsRankIn l.rows f (length l.rows) r) l.f l.ranks

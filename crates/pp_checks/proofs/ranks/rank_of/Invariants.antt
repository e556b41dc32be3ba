use Rattle.std.proofs.Common.{◌≤◌}
use Rattle.pp_checks.specs.Tables.{IsRankIn}
use Rattle.pp_checks.proofs.ranks.rank_of.Given as goal

abbrev pub invariant-loop-g : goal.invariant-loop-g
invariant-loop-g l = IsRankIn l.rows l.f l.g l.count × (l.count ≤ l.g)

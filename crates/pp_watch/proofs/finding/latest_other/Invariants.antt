use Rattle.std.proofs.Common.{◌≡◌, true}
use Rattle.pp_clause.specs.Clause.{has}
use Rattle.pp_watch.proofs.finding.latest_other.Given as goal

abbrev pub invariant-loop-other : goal.invariant-loop-other
invariant-loop-other l = has l.clause l.latest ≡ true

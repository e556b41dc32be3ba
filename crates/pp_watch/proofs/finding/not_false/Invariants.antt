use Rattle.std.proofs.Common.{◌≡◌, true, take}
use Rattle.pp_clause.specs.Log.{all_negated}
use Rattle.pp_trail.specs.Trail.{lits}
use Rattle.pp_watch.proofs.finding.not_false.Given as goal

abbrev pub invariant-loop-lit : goal.invariant-loop-lit
invariant-loop-lit l = all_negated (lits l.trail.steps) (take l.lit-index l.clause) ≡ true

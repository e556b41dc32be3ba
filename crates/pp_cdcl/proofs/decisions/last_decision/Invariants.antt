use Rattle.std.proofs.Common.{◌≤◌, length}
use Rattle.pp_cdcl.specs.Invariant.{NoDecision}
use Rattle.pp_cdcl.proofs.decisions.last_decision.Given as goal

abbrev pub invariant-loop-place : goal.invariant-loop-place
invariant-loop-place l = record {
  within : l.place ≤ length l.trail;
  none : NoDecision l.trail l.place (length l.trail);
}

abbrev pub decreases-loop-place : goal.decreases-loop-place
decreases-loop-place l = l.place

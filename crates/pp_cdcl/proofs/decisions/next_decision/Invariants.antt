use Rattle.std.proofs.Common.{◌≡◌, length}
use Rattle.pp_cdcl.specs.Invariant.{NoDecision}
use Rattle.pp_cdcl.proofs.decisions.next_decision.Given as goal

abbrev pub invariant-loop-place : goal.invariant-loop-place
invariant-loop-place l = record { end : l.place-end ≡ length l.trail; none : NoDecision l.trail l.back l.place }

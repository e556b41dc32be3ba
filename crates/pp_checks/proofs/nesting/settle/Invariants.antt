use Rattle.pp_checks.specs.Tables.{AreSettledTo}
use Rattle.pp_checks.proofs.nesting.settle.Given as goal

abbrev pub invariant-loop-f : goal.invariant-loop-f
invariant-loop-f l = AreSettledTo l.calls l.depth l.f l.depths

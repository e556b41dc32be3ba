use Rattle.pp_checks.specs.Tables.{AreSettled}
use Rattle.pp_checks.proofs.nesting.nestings_of.Given as goal

abbrev pub invariant-loop-depth : goal.invariant-loop-depth
invariant-loop-depth l = AreSettled l.calls l.depth l.depths

use Rattle.std.proofs.Common.{take}
use Rattle.pp_refute.specs.Checking.{TakesOut}
use Rattle.pp_refute.proofs.replay.take_out.Given as goal

abbrev pub invariant-loop-lit : goal.invariant-loop-lit
invariant-loop-lit l = TakesOut l.initial.table l.table (take l.lit-index l.clause)

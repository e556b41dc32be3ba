use Rattle.std.proofs.Common.{◌≡◌, length}
use Rattle.pp_build.proofs.Progress.{Building}
use Rattle.pp_build.proofs.perform.build.Given as goal

abbrev pub invariant-loop-number : goal.invariant-loop-number
invariant-loop-number g l =
    (length l.registers ≡ l.number)
    × Building g.D.Domain.sense l.table l.fn.domain l.fn.circuit l.steps l.fn.registers l.domain l.circuit l.registers

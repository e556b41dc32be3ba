use Rattle.std.proofs.Common.{take}
use Rattle.pp_build.specs.Registers.{AreAt}
use Rattle.pp_build.proofs.registers.at_all.Given as goal

abbrev pub invariant-loop-number : goal.invariant-loop-number
invariant-loop-number g l = AreAt l.registers (take l.number-index l.numbers) l.symbols

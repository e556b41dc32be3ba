use Rattle.std.proofs.Common.{take}
use Rattle.pp_simplify.specs.Marks.{Marks}
use Rattle.pp_simplify.proofs.marks.mark_all.Given as goal

abbrev pub invariant-loop-number : goal.invariant-loop-number
invariant-loop-number l = Marks l.fn.marks.items l.marks.items (take l.number-index l.numbers)

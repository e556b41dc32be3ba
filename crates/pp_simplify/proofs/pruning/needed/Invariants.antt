use Rattle.std.proofs.Common.{◌-◌, length}
use Rattle.pp_simplify.proofs.Cones.{AreFirst, IsConeFrom}
use Rattle.pp_simplify.proofs.pruning.needed.Given as goal

abbrev pub invariant-loop-number : goal.invariant-loop-number
invariant-loop-number l = AreFirst (length l.steps) l.number l.marks.items

abbrev pub invariant-loop-done : goal.invariant-loop-done
invariant-loop-done l = IsConeFrom l.first l.asked l.steps (length l.steps - l.done) l.marks.items

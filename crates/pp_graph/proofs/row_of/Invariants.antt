use Rattle.std.proofs.Common.{◌-◌, length}
use Rattle.pp_graph.proofs.Marks.{Stage}
use Rattle.pp_graph.proofs.row_of.Given as goal

abbrev pub invariant-loop-next : goal.invariant-loop-next
invariant-loop-next l = Stage l.calls l.f l.next l.front

abbrev pub decreases-loop-next : goal.decreases-loop-next
decreases-loop-next l = length l.calls - l.next

use Rattle.pp_graph.proofs.Marks.{Unset}
use Rattle.pp_graph.proofs.unmarked.Given as goal

abbrev pub invariant-loop-i : goal.invariant-loop-i
invariant-loop-i l = Unset l.i l.marks

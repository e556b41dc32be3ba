use Rattle.std.proofs.Common.{take}
use Rattle.pp_graph.specs.Fronts.{Marked}
use Rattle.pp_graph.proofs.mark_all.Given as goal

abbrev pub invariant-loop-i : goal.invariant-loop-i
invariant-loop-i l = Marked l.fn.front (take l.i l.gs) l.all

use Rattle.pp_graph.specs.Rows.{Tells}
use Rattle.pp_graph.proofs.rows_of.Given as goal

abbrev pub invariant-loop-f : goal.invariant-loop-f
invariant-loop-f l = Tells l.calls l.f l.rows

use Rattle.pp_graph.specs.Rows.{Grouped}
use Rattle.pp_graph.proofs.groups_in.Given as goal

abbrev pub invariant-loop-f : goal.invariant-loop-f
invariant-loop-f l = Grouped l.rows l.f l.groups

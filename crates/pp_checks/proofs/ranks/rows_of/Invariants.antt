use Rattle.pp_graph.specs.Rows.{Tells}
use Rattle.pp_checks.proofs.ranks.rows_of.Given as goal

abbrev pub invariant-loop-f : goal.invariant-loop-f
invariant-loop-f l = Tells l.calls l.f l.rows

use Rattle.std.proofs.Common.{◌≡◌, ◌-◌}
use Rattle.pp_graph.specs.Rows.{first_from, group}
use Rattle.pp_graph.proofs.group_of.Given as goal

abbrev pub invariant-loop-g : goal.invariant-loop-g
invariant-loop-g l = first_from l.rows l.f l.g (l.f - l.g) ≡ group l.rows l.f

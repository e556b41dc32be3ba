use Rattle.std.proofs.Common.{◌≡◌, ◌++◌, drop, ◌+◌}
use Rattle.pp_cover.specs.Constraint.{placed}
use Rattle.pp_cover.proofs.constraint.push_constraints.Given as goal

abbrev pub invariant-loop-i : goal.invariant-loop-i
invariant-loop-i l = l.row ++ placed (l.first + l.i) (drop l.i l.patterns) ≡ l.fn.row ++ placed l.first l.patterns

use Rattle.std.proofs.Common.{◌≡◌, ◌++◌, drop}
use Rattle.pp_checks.specs.Tables.{trees_in}
use Rattle.pp_checks.proofs.heights.add_trees.Given as goal

abbrev pub invariant-loop-s : goal.invariant-loop-s
invariant-loop-s l = l.initial.found ++ trees_in l.sorts ≡ l.found ++ trees_in (drop l.s-index l.sorts)

use Rattle.std.proofs.Common.{take}
use Rattle.pp_bounded_trees.specs.Possible.{total}
use Rattle.pp_named_instances.specs.Levels.{AddsLevels, SortsHaveLevels, level_gates}
use Rattle.pp_named_instances.proofs.levels.make_sort_levels.Given as goal

abbrev pub invariant-loop-place : goal.invariant-loop-place
invariant-loop-place l = record {
  levels : AddsLevels l.table l.initial.trees l.initial.circuit l.trees l.circuit
      (total level_gates (take l.place l.sorts));
  has : SortsHaveLevels l.trees.groups l.trees.levels l.d (take l.place l.sorts);
}

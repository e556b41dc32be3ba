use Rattle.std.proofs.Common.{◌+◌, take}
use Rattle.pp_bounded_trees.specs.Possible.{total}
use Rattle.pp_named_instances.specs.Condition.{HasLevel}
use Rattle.pp_named_instances.specs.Levels.{AddsLevels, CtorsHaveLevels, ctor_level_gates}
use Rattle.pp_named_instances.proofs.levels.make_levels.Given as goal

abbrev pub invariant-loop-place : goal.invariant-loop-place
invariant-loop-place l = record {
  levels : AddsLevels l.table l.fn.trees l.fn.circuit l.trees l.circuit
      (32 + total ctor_level_gates (take l.place l.ctors));
  own : HasLevel l.trees.groups l.trees.levels l.d;
  has : CtorsHaveLevels l.trees.groups l.trees.levels l.d (take l.place l.ctors);
}

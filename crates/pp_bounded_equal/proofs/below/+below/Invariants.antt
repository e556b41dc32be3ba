use Rattle.std.proofs.Common.{◌+◌, ◌*◌, take}
use Rattle.pp_gate.specs.Growth.{AddsGates}
use Rattle.pp_bounded_equal.specs.Below.{AreUnderTest, BelowBefore, ctors_nodes, fields_nodes, weight}
use Rattle.pp_bounded_merge.proofs.Ranks.{ranks, tops}
use Rattle.pp_bounded_trees.proofs.Reading.{rank}
use Rattle.pp_bounded_equal.proofs.below.+below.Given as goal

abbrev pub decreases-below_tree : goal.decreases-below_tree
decreases-below_tree l = 8 * l.old.now.number + 8

abbrev pub decreases-below_ctor : goal.decreases-below_ctor
decreases-below_ctor l = 8 * tops l.side.now + 5

abbrev pub decreases-below_fields : goal.decreases-below_fields
decreases-below_fields l = 8 * ranks l.fields.now + 4

abbrev pub decreases-below_field : goal.decreases-below_field
decreases-below_field l = 8 * rank l.field.now + 3

abbrev pub decreases-under_tree : goal.decreases-under_tree
decreases-under_tree l = 8 * l.old.now.number + 10

abbrev pub invariant-below_tree-loop-place : goal.invariant-below_tree-loop-place
invariant-below_tree-loop-place l = record {
  adds : AddsGates l.initial.circuit l.circuit (weight l.table l.new * ctors_nodes l.table l.side l.first l.place);
  before : BelowBefore l.trees l.circuit l.new l.side l.first l.place l.any;
}

abbrev pub invariant-below_fields-loop-place : goal.invariant-below_fields-loop-place
invariant-below_fields-loop-place l = record {
  adds : AddsGates l.initial.circuit l.circuit (weight l.table l.new * fields_nodes l.table (take l.place l.fields));
  test : AreUnderTest l.trees l.circuit l.new l.lit l.fn.any l.more (take l.place l.fields);
}

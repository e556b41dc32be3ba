use Rattle.std.proofs.Common.{◌+◌, ◌*◌, take}
use Rattle.pp_gate.specs.Growth.{AddsGates}
use Rattle.pp_bounded_equal.specs.Equal.{AreEqualFields, EqualBefore, ctors_test, pairs_test}
use Rattle.pp_bounded_merge.proofs.Ranks.{ranks, tops}
use Rattle.pp_bounded_trees.proofs.Reading.{rank}
use Rattle.pp_bounded_equal.proofs.equal.+equal.Given as goal

abbrev pub decreases-equal_tree : goal.decreases-equal_tree
decreases-equal_tree l = 8 * l.left.now.number + 8

abbrev pub decreases-equal_ctor : goal.decreases-equal_ctor
decreases-equal_ctor l = 8 * tops l.left.now + 4

abbrev pub decreases-equal_fields : goal.decreases-equal_fields
decreases-equal_fields l = 8 * ranks l.left.now + 3

abbrev pub decreases-equal_symbol : goal.decreases-equal_symbol
decreases-equal_symbol l = 8 * rank l.left.now + 1

abbrev pub invariant-equal_tree-loop-place : goal.invariant-equal_tree-loop-place
invariant-equal_tree-loop-place l = record {
  adds : AddsGates l.initial.circuit l.circuit (ctors_test l.table l.left_side l.right_side l.first l.place);
  before : EqualBefore l.trees l.circuit l.left_side l.right_side l.first l.place l.any;
}

abbrev pub invariant-equal_fields-loop-place : goal.invariant-equal_fields-loop-place
invariant-equal_fields-loop-place l = record {
  adds : AddsGates l.initial.circuit l.circuit (pairs_test l.table (take l.place l.left) (take l.place l.right));
  test : AreEqualFields l.trees l.circuit l.fn.both l.fn.both (take l.place l.left) (take l.place l.right) l.all;
}

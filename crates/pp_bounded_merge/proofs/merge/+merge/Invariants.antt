use Rattle.std.proofs.Common.{◌+◌, ◌*◌, take}
use Rattle.pp_bounded_merge.specs.Merge.{Adds, AreChosen, AreOfSorts, MergedBefore, TwoSides, merged_bits, pairs_bits}
use Rattle.pp_bounded_merge.proofs.Ranks.{ranks, tops}
use Rattle.pp_bounded_trees.proofs.Reading.{rank}
use Rattle.pp_bounded_merge.proofs.merge.+merge.Given as goal

abbrev pub decreases-choose_tree : goal.decreases-choose_tree
decreases-choose_tree l = 8 * l.left.now.number + 8

abbrev pub decreases-choose_alternatives : goal.decreases-choose_alternatives
decreases-choose_alternatives l = 8 * tops l.left.now + 5

abbrev pub decreases-choose_ctor : goal.decreases-choose_ctor
decreases-choose_ctor l = 8 * tops l.left.now + 4

abbrev pub decreases-choose_fields : goal.decreases-choose_fields
decreases-choose_fields l = 8 * ranks l.left.now + 3

abbrev pub decreases-choose_symbol : goal.decreases-choose_symbol
decreases-choose_symbol l = 8 * rank l.left.now + 1

abbrev pub invariant-choose_alternatives-loop-place : goal.invariant-choose_alternatives-loop-place
invariant-choose_alternatives-loop-place l = record {
  adds : Adds l.table l.initial.trees l.initial.circuit l.trees l.circuit
      (merged_bits l.table l.left l.right l.first l.place);
  merged : (s : TwoSides l.table l.initial.trees l.initial.circuit l.left l.right)
      → MergedBefore l.table l.trees l.circuit l.choice s.of s.h l.left l.right l.first l.place l.all;
}

abbrev pub invariant-choose_fields-loop-place : goal.invariant-choose_fields-loop-place
invariant-choose_fields-loop-place l = record {
  adds : Adds l.table l.initial.trees l.initial.circuit l.trees l.circuit
      (pairs_bits l.table (take l.place l.left) (take l.place l.right));
  chosen : (s : AreOfSorts l.initial.trees l.initial.circuit l.left l.right)
      → AreChosen l.trees l.circuit l.choice (take l.place s.sorts) (take l.place l.left) (take l.place l.right)
      l.fields;
}

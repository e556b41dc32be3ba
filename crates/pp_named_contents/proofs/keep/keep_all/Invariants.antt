use Rattle.pp_named_contents.specs.Kept.{FieldsKeptTo, Keeps}
use Rattle.pp_named_contents.proofs.keep.keep_all.Given as goal

abbrev pub invariant-loop-place : goal.invariant-loop-place
invariant-loop-place l = record {
  keeps : Keeps l.circuit l.initial.trees l.trees;
  kept : FieldsKeptTo l.trees.nodes l.place l.alternatives;
}

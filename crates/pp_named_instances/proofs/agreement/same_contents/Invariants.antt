use Rattle.std.proofs.Common.{take}
use Rattle.pp_gate.specs.Growth.{AddsGates}
use Rattle.pp_bounded_trees.specs.Possible.{total}
use Rattle.pp_named_instances.specs.Tests.{IsContentsTest, ctor_same_gates}
use Rattle.pp_named_instances.proofs.agreement.same_contents.Given as goal

abbrev pub invariant-loop-place : goal.invariant-loop-place
invariant-loop-place l = record {
  adds : AddsGates l.initial.circuit l.circuit (total ctor_same_gates (take l.place l.xs));
  same : IsContentsTest l.circuit (take l.place l.xs) (take l.place l.ys) l.all;
}

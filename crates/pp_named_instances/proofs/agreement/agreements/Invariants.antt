use Rattle.std.proofs.Common.{take}
use Rattle.pp_gate.specs.Growth.{AddsGates}
use Rattle.pp_bounded_trees.specs.Possible.{total}
use Rattle.pp_named_instances.specs.Tests.{IsAgreementTest, agreement_gates_if}
use Rattle.pp_named_instances.proofs.agreement.agreements.Given as goal

abbrev pub invariant-loop-place : goal.invariant-loop-place
invariant-loop-place l = record {
  adds : AddsGates l.initial.circuit l.circuit (total (agreement_gates_if l.y) (take l.place l.earlier));
  agree : IsAgreementTest l.circuit l.y (take l.place l.earlier) l.all;
}

use Rattle.std.proofs.Common.{take}
use Rattle.pp_gate.specs.Growth.{AddsGates}
use Rattle.pp_bounded_trees.specs.Possible.{total}
use Rattle.pp_named_instances.specs.OrderTests.{AllBeforeTest, fields_before_gates}
use Rattle.pp_named_instances.proofs.order.all_before.Given as goal

abbrev pub invariant-loop-j : goal.invariant-loop-j
invariant-loop-j l = record {
  adds : AddsGates l.initial.circuit l.circuit (total fields_before_gates (take l.j l.alternatives));
  before : AllBeforeTest l.circuit l.groups l.levels l.d l.place (take l.j l.alternatives) l.before;
}

use Rattle.std.proofs.Common.{take}
use Rattle.pp_gate.specs.Growth.{AddsGates}
use Rattle.pp_bounded_trees.specs.Possible.{total}
use Rattle.pp_named_instances.specs.OrderTests.{AreBeforeTest, before_gates}
use Rattle.pp_named_instances.proofs.order.fields_before.Given as goal

abbrev pub invariant-loop-i : goal.invariant-loop-i
invariant-loop-i l = record {
  adds : AddsGates l.initial.circuit l.circuit (total before_gates (take l.i l.fields));
  before : AreBeforeTest l.circuit l.groups l.levels l.d l.place l.fn.all l.x.lit (take l.i l.fields) l.before;
}

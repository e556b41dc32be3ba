use Rattle.std.proofs.Common.{take}
use Rattle.pp_gate.specs.Circuit.{IsCircuit}
use Rattle.pp_gate.specs.Growth.{Grows}
use Rattle.pp_named_contents.specs.Contents.{AreGuarded, parts_gates}
use Rattle.pp_named_contents.proofs.guarded.guarded_fields.Given as goal

abbrev pub invariant-loop-place : goal.invariant-loop-place
invariant-loop-place l = record {
  grows : Grows l.initial.circuit l.circuit (parts_gates (take l.place l.sorts));
  circuit : IsCircuit l.circuit;
  guarded : AreGuarded l.initial.circuit l.circuit l.low l.lit (take l.place l.sorts) l.fields;
}

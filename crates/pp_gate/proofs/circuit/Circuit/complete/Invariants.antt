use Rattle.std.proofs.Common.{◌≡◌, length}
use Rattle.pp_clause.specs.Assignment.{assigned}
use Rattle.pp_gate.proofs.Extension.{CompletedTo}
use Rattle.pp_gate.proofs.circuit.Circuit.complete.Given as goal

abbrev pub invariant-loop-i : goal.invariant-loop-i
invariant-loop-i l = record {
  len : length l.values.items ≡ l.i;
  completed : CompletedTo l.i l.gates (assigned l.inputs) (assigned l.values.items);
}

use Rattle.std.proofs.Common.{length, take, replicate, false}
use Rattle.pp_gate.specs.Marks.{Marks}
use Rattle.pp_gate.proofs.Cones.{IsConeFrom}
use Rattle.pp_gate.proofs.circuit.Circuit.cone.Given as goal

abbrev pub invariant-loop-i : goal.invariant-loop-i
invariant-loop-i l = Marks (replicate (length l.gates) false) l.marks.items (take l.i l.asked)

abbrev pub invariant-loop-done : goal.invariant-loop-done
invariant-loop-done l = IsConeFrom l.gates l.asked l.done l.marks.items

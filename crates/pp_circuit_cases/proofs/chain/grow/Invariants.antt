use Rattle.std.proofs.Common.{◌*◌}
use Rattle.pp_gate.specs.Circuit.{IsOf}
use Rattle.pp_gate.specs.Growth.{Grows}
use Rattle.pp_circuit_cases.proofs.chain.grow.Given as goal

abbrev pub invariant-loop-turn : goal.invariant-loop-turn
invariant-loop-turn l = record {
  grows : Grows l.initial.circuit l.circuit (4 * l.turn);
  first : IsOf l.circuit l.last.a;
  second : IsOf l.circuit l.last.b;
  third : IsOf l.circuit l.last.c;
}

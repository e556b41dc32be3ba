use Rattle.std.proofs.Common.{◌*◌, ◌+◌, ◌≤◌, length, All}
use Rattle.pp_gate.specs.Circuit.{IsOf}
use Rattle.pp_circuit_cases.proofs.chain.multiply.Given as goal

abbrev pub invariant-loop-turn : goal.invariant-loop-turn
invariant-loop-turn l = record {
  most : length l.circuit ≤ 8192 * l.turn + 65;
  product : All (IsOf l.circuit) l.product;
  factor : All (IsOf l.circuit) l.factor;
}

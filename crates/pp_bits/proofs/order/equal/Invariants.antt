use Rattle.std.proofs.Common.{◌≡◌, ℕ, ◌*◌, ◌==◌, Bool, take}
use Rattle.pp_clause.specs.Literal.{lit_value}
use Rattle.pp_gate.specs.Growth.{AddsGates}
use Rattle.pp_gate.specs.Circuit.{Gives, IsOf}
use Rattle.pp_bits.specs.Number.{nat_of}
use Rattle.pp_bits.proofs.order.equal.Given as goal

abbrev pub invariant-loop-i : goal.invariant-loop-i
invariant-loop-i l = record {
  grown : AddsGates l.initial.circuit l.circuit (2 * l.i);
  of : IsOf l.circuit l.equal;
  value : (s : ℕ → Bool) → Gives s l.circuit → lit_value s l.equal ≡
      (nat_of s (take l.i l.a) == nat_of s (take l.i l.b));
}

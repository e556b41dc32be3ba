use Rattle.std.proofs.Common.{◌≡◌, ℕ, Bool, ◌+◌, ◌*◌, ◌^◌, take}
use Rattle.pp_gate.specs.Growth.{AddsGates}
use Rattle.pp_gate.specs.Circuit.{Gives, IsOf}
use Rattle.pp_bits.specs.Number.{lit_bit, nat_of}
use Rattle.pp_bits.proofs.Growing.{Digits}
use Rattle.pp_bits.proofs.sum.add_carry.Given as goal

abbrev pub invariant-loop-i : goal.invariant-loop-i
invariant-loop-i l = record {
  grown : AddsGates l.initial.circuit l.circuit (3 * l.i);
  digits : Digits l.circuit l.i l.digits.items;
  next_of : IsOf l.circuit l.next;
  value : (s : ℕ → Bool) → Gives s l.circuit → nat_of s l.digits.items + 2 ^ l.i * lit_bit s l.next ≡ nat_of s
      (take l.i l.a) + nat_of s (take l.i l.b) + lit_bit s l.initial.next;
}

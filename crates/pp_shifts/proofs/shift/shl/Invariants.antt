use Rattle.std.proofs.Common.{◌≡◌, ℕ, Bool, ◌*◌, ◌-◌, ◌^◌, ◌%◌, min, length, take}
use Rattle.pp_gate.specs.Growth.{AddsGates}
use Rattle.pp_gate.specs.Circuit.{Gives}
use Rattle.pp_bits.specs.Number.{nat_of}
use Rattle.pp_bits.proofs.Growing.{Digits}
use Rattle.pp_shifts.proofs.shift.shl.Given as goal

abbrev pub invariant-loop-i : goal.invariant-loop-i
invariant-loop-i l = record {
  grown : AddsGates l.initial.circuit l.circuit (length l.a * l.i);
  digits : Digits l.circuit (length l.a) l.digits.items;
  places : l.by ≡ min (2 ^ l.i) (2 ^ 64 - 1);
  value : (s : ℕ → Bool) → Gives s l.circuit → nat_of s l.digits.items ≡
      (nat_of s l.a * 2 ^ nat_of s (take l.i l.distance)) % 2 ^ length l.a;
}

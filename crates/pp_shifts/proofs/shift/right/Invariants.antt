use Rattle.std.proofs.Common.{◌≡◌, ℕ, Bool, ◌*◌, ◌-◌, ◌^◌, min, length, take}
use Rattle.pp_clause.specs.Literal.{lit_value}
use Rattle.pp_gate.specs.Growth.{AddsGates}
use Rattle.pp_gate.specs.Circuit.{Gives}
use Rattle.pp_bits.specs.Number.{nat_of}
use Rattle.pp_bits.proofs.Growing.{Digits}
use Rattle.pp_shifts.specs.Shift.{moved_right}
use Rattle.pp_shifts.proofs.shift.right.Given as goal

abbrev pub invariant-loop-i : goal.invariant-loop-i
invariant-loop-i l = record {
  grown : AddsGates l.initial.circuit l.circuit (length l.a * l.i);
  digits : Digits l.circuit (length l.a) l.digits.items;
  places : l.by ≡ min (2 ^ l.i) (2 ^ 64 - 1);
  value : (s : ℕ → Bool) → Gives s l.circuit → nat_of s l.digits.items ≡ moved_right (length l.a) (lit_value s l.fill)
      (nat_of s l.a) (nat_of s (take l.i l.distance));
}

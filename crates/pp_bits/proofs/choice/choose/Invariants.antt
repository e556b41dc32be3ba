use Rattle.std.proofs.Common.{◌≡◌, ℕ, Bool, if◌then◌else◌, take}
use Rattle.pp_clause.specs.Literal.{lit_value}
use Rattle.pp_gate.specs.Growth.{AddsGates}
use Rattle.pp_gate.specs.Circuit.{Gives}
use Rattle.pp_bits.specs.Number.{nat_of}
use Rattle.pp_bits.proofs.Growing.{Digits}
use Rattle.pp_bits.proofs.choice.choose.Given as goal

abbrev pub invariant-loop-i : goal.invariant-loop-i
invariant-loop-i l = record {
  grown : AddsGates l.initial.circuit l.circuit l.i;
  digits : Digits l.circuit l.i l.digits.items;
  value : (s : ℕ → Bool) → Gives s l.circuit → nat_of s l.digits.items ≡
      (if lit_value s l.choice then nat_of s (take l.i l.a) else nat_of s (take l.i l.b));
}

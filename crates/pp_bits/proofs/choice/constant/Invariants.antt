use Rattle.std.proofs.Common.{◌≡◌, ℕ, ◌+◌, ◌*◌, ◌^◌, Bool}
use Rattle.pp_gate.specs.Circuit.{Gives}
use Rattle.pp_bits.specs.Number.{nat_of}
use Rattle.pp_bits.proofs.Growing.{Digits}
use Rattle.pp_bits.proofs.choice.constant.Given as goal

abbrev pub invariant-loop-place : goal.invariant-loop-place
invariant-loop-place l = record {
  digits : Digits l.circuit l._place l.digits.items;
  value : (s : ℕ → Bool) → Gives s l.circuit → nat_of s l.digits.items + 2 ^ l._place * l.rest ≡ l.value;
}

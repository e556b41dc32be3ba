use Rattle.std.proofs.Common.{◌≡◌, ℕ, ◌+◌, ◌^◌, Bool, take}
use Rattle.pp_bits.specs.Number.{nat_of}
use Rattle.pp_bits.proofs.Growing.{Digits}
use Rattle.pp_bits.proofs.choice.invert.Given as goal

abbrev pub invariant-loop-i : goal.invariant-loop-i
invariant-loop-i l = record {
  digits : Digits l.circuit l.i l.digits.items;
  value : (s : ℕ → Bool) → nat_of s l.digits.items + nat_of s (take l.i l.a) + 1 ≡ 2 ^ l.i;
}

use Rattle.std.proofs.Common.{◌≡◌, drop, ◌^◌, ◌<◌}
use Rattle.pp_words.specs.Number.{with_digits}
use Rattle.pp_words.proofs.number.number.Given as goal

abbrev pub invariant-loop-byte : goal.invariant-loop-byte
invariant-loop-byte l = record {
  read : with_digits 0 l.bytes ≡ with_digits l.value (drop l.byte-index l.bytes);
  small : l.value < 10 ^ l.byte-index;
}

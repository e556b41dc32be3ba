use Rattle.std.proofs.Common.{◌≡◌, ◌≤◌, min, take}
use Rattle.pp_tokens.specs.declared.numbers.TheConstants.{TOO_GREAT}
use Rattle.pp_tokens.specs.Numbers.{value}
use Rattle.pp_tokens.proofs.numbers.value.Given as goal

abbrev pub invariant-loop-digit : goal.invariant-loop-digit
invariant-loop-digit l = record {
  capped : l.value ≡ min (value l.base (take l.digit-index l.digits)) TOO_GREAT;
  small : l.value ≤ TOO_GREAT;
}

use Rattle.std.proofs.Common.{◌^◌, ◌%◌, ap, ◌∙◌, arith}
use Rattle.pp_bits.specs.Number.{nat_of}
use Rattle.pp_bits.proofs.Growing.{Digits_none, Digits_push, Grows_none}
use Rattle.pp_bits.proofs.ByDigit.{constant_turn}
use Rattle.pp_bits.proofs.Numbers.{nat_of_nil, nat_of_within, remainder_is}
use Rattle.pp_bits.proofs.choice.constant.Goals as goal

pub loop-place-init : goal.loop-place-init
loop-place-init c = record {
  digits = Digits_none c.in_ok-digits.ensures.items;
  value = λ s gives. omega (arith, ap (nat_of s) c.in_ok-digits.ensures.items, nat_of_nil s);
}

pub loop-place-preserved : goal.loop-place-preserved
loop-place-preserved c =
    let now = c.loop-place.invariant in
    let push = c.in_ok-push.ensures.items in
    let known = c.known-digit.ensures in
    record {
      digits = Digits_push now.digits (Grows_none _) (known.of _ c.truth-truth.ensures.stands.of) push;
      value = λ s gives. constant_turn s _ _ _ _ _ _ now.digits.len push
          (known.value s (c.truth-truth.ensures.stands.value s gives)) (now.value s gives);
    }

pub returns-clause-stands : goal.returns-clause-stands
returns-clause-stands c =
    let end = c.loop-place.invariant in
    record {
      len = omega (arith, end.digits.len);
      of = end.digits.of;
      value = λ s gives. remainder_is _ _ _ _ (nat_of_within s _ _ end.digits.len) (end.value s gives)
          ∙ ap (λ k. c.args.value % 2 ^ k) (omega arith);
    }

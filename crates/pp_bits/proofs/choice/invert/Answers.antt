use Rattle.std.proofs.Common.{ap, arith}
use Rattle.pp_bits.specs.Number.{nat_of}
use Rattle.pp_bits.proofs.Growing.{Digits_none, Digits_push, Grows_none, IsOf_at, IsOf_negated}
use Rattle.pp_bits.proofs.Numbers.{lit_value_negated, nat_of_nil}
use Rattle.pp_bits.proofs.ByDigit.{invert_turn}
use Rattle.pp_bits.proofs.choice.invert.Goals as goal

pub loop-i-init : goal.loop-i-init
loop-i-init c = record {
  digits = Digits_none c.in_ok-digits.ensures.items;
  value = λ s. omega (arith, ap (nat_of s) c.in_ok-digits.ensures.items, nat_of_nil s);
}

pub loop-i-preserved : goal.loop-i-preserved
loop-i-preserved c =
    let now = c.loop-i.invariant in
    let push = c.in_ok-push.ensures.items in
    record {
      digits = Digits_push now.digits (Grows_none _)
          (IsOf_negated _ _ _ c.negated-digit.ensures (IsOf_at _ _ _ _ c.requires c.loop-i-test.true c.index-a-i.is))
          push;
      value = λ s. invert_turn s _ _ _ _ _ _ c.loop-i-test.true c.index-a-i.is now.digits.len push
          (lit_value_negated s _ _ c.negated-digit.ensures) (now.value s);
    }

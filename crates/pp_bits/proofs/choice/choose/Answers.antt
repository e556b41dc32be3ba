use Rattle.std.proofs.Common.{arith, ap, ◌∙◌}
use Rattle.pp_bits.specs.Number.{nat_of}
use Rattle.pp_bits.proofs.Growing.{Gives_old, AddsGates_none, AddsGates_more, Digits_none, Digits_push}
use Rattle.pp_bits.proofs.ByDigit.{choose_none, choose_digit, digit_turn}
use Rattle.pp_bits.proofs.choice.choose.Goals as goal

pub loop-i-init : goal.loop-i-init
loop-i-init c = record {
  grown = AddsGates_none _ _ c.in_ok-digits.ensures.circuit;
  digits = Digits_none c.in_ok-digits.ensures.items;
  value = λ s gives. ap (nat_of s) c.in_ok-digits.ensures.items ∙ choose_none s _;
}

pub loop-i-preserved : goal.loop-i-preserved
loop-i-preserved c =
    let now = c.loop-i.invariant in
    let gate = c.in_ok-digit.ensures in
    let push = c.in_ok-push.ensures.items in
    record {
      grown = AddsGates_more _ _ _ _ _ _ now.grown gate.adds (omega arith);
      digits = Digits_push now.digits gate.adds.grows gate.stands.of push;
      value = λ s gives. digit_turn _ _ (choose_digit _) s _ _ _ _ _ _ _ _ c.loop-i-test.true (omega arith)
          c.index-a-i.is c.index-b-i.is now.digits.len push (gate.stands.value s gives)
          (now.value s (Gives_old _ _ _ gate.adds.grows s gives));
    }

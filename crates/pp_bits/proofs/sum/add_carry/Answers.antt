use Rattle.std.proofs.Common.{ap, arith}
use Rattle.pp_bits.specs.Number.{nat_of}
use Rattle.pp_bits.proofs.Growing.{Gives_old, AddsGates_none, AddsGates_more, Digits_none, Digits_push}
use Rattle.pp_bits.proofs.Numbers.{nat_of_nil, nat_of_next, nat_of_pushed}
use Rattle.pp_bits.proofs.Sums.{add_turn}
use Rattle.pp_bits.proofs.sum.add_carry.Goals as goal

pub loop-i-init : goal.loop-i-init
loop-i-init c = record {
  grown = AddsGates_none _ _ c.in_ok-digits.ensures.circuit;
  digits = Digits_none c.in_ok-digits.ensures.items;
  next_of = c.requires.carry;
  value = λ s gives. omega (arith, ap (nat_of s) c.in_ok-digits.ensures.items, nat_of_nil s);
}

pub loop-i-preserved : goal.loop-i-preserved
loop-i-preserved c =
    let now = c.loop-i.invariant in
    let add = c.in_ok-digit.ensures in
    let push = c.in_ok-push.ensures.items in
    record {
      grown = AddsGates_more _ _ _ _ _ _ now.grown add.adds (omega arith);
      digits = Digits_push now.digits add.adds.grows add.sum_of push;
      next_of = add.carry_of;
      value = λ s gives. add_turn _ _ _ _ _ _ _ _ _ _ _ _ _ (nat_of_pushed s _ _ _ _ now.digits.len push)
          (nat_of_next s _ _ _ _ c.loop-i-test.true c.index-a-i.is) (nat_of_next s _ _ _ _ (omega arith) c.index-b-i.is)
          (add.value s gives) (now.value s (Gives_old _ _ _ add.adds.grows s gives));
    }

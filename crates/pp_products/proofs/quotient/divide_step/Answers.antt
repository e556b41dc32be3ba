use Rattle.std.proofs.Common.{arith, refl}
use Rattle.std.proofs.lemmas.List.{length-take}
use Rattle.pp_bits.proofs.Growing as growing
use Rattle.pp_products.proofs.Quotients.{divide_turn, AreOf_cut, AreOf_over, step_grows}
use Rattle.pp_products.proofs.quotient.divide_step.Goals as goal

pub choose-requires-clause-left : goal.choose-requires-clause-left
choose-requires-clause-left c =
    AreOf_cut _ _ _ _ _ _ c.deref-3.ensures.value
    (AreOf_over _ _ _ _ _ refl c.in_ok-wide.ensures c.requires.low c.requires.rest)
    (step_grows _ _ _ _ _ _ _ _ _ c.deref.ensures.value c.in_ok-wide.ensures c.requires.fewer
    c.in_ok-greater.ensures.adds c.in_ok-less.ensures.adds c.in_ok-stays.ensures.adds)

pub choose-requires-clause-right : goal.choose-requires-clause-right
choose-requires-clause-right c = AreOf_cut _ _ _ _ _ _ c.deref-4.ensures.value c.in_ok-less.ensures.of
    c.in_ok-stays.ensures.adds

pub returns-in_err-stays-clause-adds : goal.returns-in_err-stays-clause-adds
returns-in_err-stays-clause-adds c =
    growing.AddsGates_weaker _ _ _ _
    (step_grows _ _ _ _ _ _ _ _ _ c.deref.ensures.value c.in_ok-wide.ensures c.requires.fewer
    c.in_ok-greater.ensures.adds c.in_ok-less.ensures.adds c.in_err-stays.ensures.adds) (omega arith)

pub returns-in_err-left-clause-adds : goal.returns-in_err-left-clause-adds
returns-in_err-left-clause-adds c =
    growing.AddsGates_more _ _ _ _ _ _
    (step_grows _ _ _ _ _ _ _ _ _ c.deref.ensures.value c.in_ok-wide.ensures c.requires.fewer
    c.in_ok-greater.ensures.adds c.in_ok-less.ensures.adds c.in_ok-stays.ensures.adds)
    c.in_err-left.ensures.adds (rw length-take (omega arith))

pub returns-clause-adds : goal.returns-clause-adds
returns-clause-adds c =
    growing.AddsGates_more _ _ _ _ _ _
    (step_grows _ _ _ _ _ _ _ _ _ c.deref.ensures.value c.in_ok-wide.ensures c.requires.fewer
    c.in_ok-greater.ensures.adds c.in_ok-less.ensures.adds c.in_ok-stays.ensures.adds)
    c.in_ok-left.ensures.adds (rw length-take (omega arith))

pub returns-clause-value : goal.returns-clause-value
returns-clause-value c = λ s gives below.
    let left = c.in_ok-left.ensures in
    let stays = c.in_ok-stays.ensures in
    let less = c.in_ok-less.ensures in
    let before = growing.Gives_before _ _ _ left.adds s gives in
    let early = growing.Gives_before _ _ _ stays.adds s before in
    let start = growing.Gives_before _ _ _ less.adds s early in
    divide_turn s _ _ _ _ _ _ _ _ _ _ _ _ _ _ _ _ _ refl c.in_ok-wide.ensures (c.in_ok-divisor.ensures.value s start)
    (c.in_ok-greater.ensures.stands.value s start)
    c.deref.ensures.value c.deref-2.ensures.value c.deref-3.ensures.value c.deref-4.ensures.value (omega arith)
    less.len (less.value s early) (stays.stands.value s before) (left.stands.value s gives) c.negated-digit.ensures
    below

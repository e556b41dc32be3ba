use Rattle.std.proofs.Common.{rules}
use Rattle.pp_bits.proofs.Growing as growing
use Rattle.pp_products.proofs.Quotients.{divide_budget, divide_more, AreOf_over}
use Rattle.pp_products.proofs.quotient.+divide_digits.Goals as goal

pub returns-in_err-digit-clause-adds : goal.returns-in_err-digit-clause-adds
returns-in_err-digit-clause-adds t c =
    growing.AddsGates_more _ _ _ _ _ _ c.in_ok-high.ensures.adds c.in_err-digit.ensures.adds
    (divide_budget c.args.d.now c.args.a.now (search rules))

pub returns-in_err-all-clause-adds : goal.returns-in_err-all-clause-adds
returns-in_err-all-clause-adds t c =
    growing.AddsGates_more _ _ _ _ _ _ c.in_ok-high.ensures.adds c.in_ok-digit.ensures.adds
    (divide_budget c.args.d.now c.args.a.now (search rules))

pub returns-in_ok-all-clause-adds : goal.returns-in_ok-all-clause-adds
returns-in_ok-all-clause-adds t c =
    growing.AddsGates_more _ _ _ _ _ _ c.in_ok-high.ensures.adds c.in_ok-digit.ensures.adds
    (divide_budget c.args.d.now c.args.a.now (search rules))

pub returns-in_ok-all-clause-of : goal.returns-in_ok-all-clause-of
returns-in_ok-all-clause-of t c =
    let digit = c.in_ok-digit.ensures in
    AreOf_over _ _ _ _ _ c.deref-else-is_empty.ensures.value c.in_ok-all.ensures digit.digit_of
    (growing.AreOf_more _ _ _ _ digit.adds.grows c.in_ok-high.ensures.of)

pub returns-in_ok-all-clause-value : goal.returns-in_ok-all-clause-value
returns-in_ok-all-clause-value t c = λ s gives some.
    divide_more s _ _ _ _ _ _ _ _ _ _ (search rules) c.index-a-0.is c.deref.ensures.value
    c.deref-else-is_empty.ensures.value c.in_ok-all.ensures
    (c.in_ok-high.ensures.value s (growing.Gives_before _ _ _ c.in_ok-digit.ensures.adds s gives) some)
    (c.in_ok-digit.ensures.value s gives)

use Rattle.std.proofs.Common.{arith}
use Rattle.std.proofs.lemmas.Int.{ints}
use Rattle.pp_closure.proofs.LinkedOrders.{if_some}
use Rattle.pp_closure.proofs.amounts.learn_sum.Goals as goal

pub returns : goal.returns
returns c ρ exact adds holds =
    let a = c.low.ensures ρ holds adds.one.word in
    let b = c.low-2.ensures ρ holds adds.other.word in
    let d = c.high.ensures ρ holds adds.one.word in
    let e = c.high-2.ensures ρ holds adds.other.word in
    c.reduce_to.ensures ρ
    (if_some c.plus-high.result _ _ (λ n is. omega (arith, ints, d, e, is, exact)) c.plus-high.ensures)
    (c.raise_to.ensures ρ
    (if_some c.plus-low.result _ _ (λ n is. omega (arith, ints, a, b, is, exact)) c.plus-low.ensures) holds)

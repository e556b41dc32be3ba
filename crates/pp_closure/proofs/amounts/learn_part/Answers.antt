use Rattle.std.proofs.Common.{arith}
use Rattle.std.proofs.lemmas.Int.{ints}
use Rattle.pp_closure.proofs.LinkedOrders.{if_some}
use Rattle.pp_closure.proofs.amounts.learn_part.Goals as goal

pub returns : goal.returns
returns c ρ exact adds holds =
    let a = c.low.ensures ρ holds adds.sum.word in
    let b = c.high.ensures ρ holds adds.other.word in
    let d = c.high-2.ensures ρ holds adds.sum.word in
    let e = c.low-2.ensures ρ holds adds.other.word in
    c.reduce_to.ensures ρ
    (if_some c.minus-high.result _ _ (λ n is. omega (arith, ints, d, e, is, exact)) c.minus-high.ensures)
    (c.raise_to.ensures ρ
    (if_some c.minus-low.result _ _ (λ n is. omega (arith, ints, a, b, is, exact)) c.minus-low.ensures) holds)

use Rattle.std.proofs.Common.{arith}
use Rattle.std.proofs.lemmas.Int.{ints}
use Rattle.pp_closure.proofs.bounds.learn_at_most.Goals as goal

pub returns : goal.returns
returns c ρ le low high holds =
    let a = c.low-least.ensures ρ holds low in
    let b = c.high-most.ensures ρ holds high in
    c.at_most.ensures ρ (omega (arith, ints, le, b)) (c.at_least.ensures ρ (omega (arith, ints, le, a)) holds)

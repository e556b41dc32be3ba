use Rattle.std.proofs.Common.{arith}
use Rattle.std.proofs.lemmas.Int.{ints}
use Rattle.pp_closure.proofs.bounds.reduce.Goals as goal

pub returns-in-Some : goal.returns-in-Some
returns-in-Some c ρ less word holds =
    let high = c.high.ensures ρ holds word in
    let is = c.in-Some.ensures in
    c.at_most.ensures ρ (omega (arith, ints, less, high, is)) holds

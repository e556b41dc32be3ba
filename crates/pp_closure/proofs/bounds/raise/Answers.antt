use Rattle.std.proofs.Common.{arith}
use Rattle.std.proofs.lemmas.Int.{ints}
use Rattle.pp_closure.proofs.bounds.raise.Goals as goal

pub returns-in-Some : goal.returns-in-Some
returns-in-Some c ρ less word holds =
    let low = c.low.ensures ρ holds word in
    let is = c.in-Some.ensures in
    c.at_least.ensures ρ (omega (arith, ints, less, low, is)) holds

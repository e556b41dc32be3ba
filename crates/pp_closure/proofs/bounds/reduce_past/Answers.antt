use Rattle.std.proofs.Common.{arith}
use Rattle.std.proofs.lemmas.Int.{ints}
use Rattle.pp_closure.specs.Sums.{whole}
use Rattle.pp_closure.proofs.LinkedOrders.{past_high}
use Rattle.pp_closure.proofs.bounds.reduce_past.Goals as goal
use lib.Signed.{◌≤ℤ◌}

pub returns-in-Some : goal.returns-in-Some
returns-in-Some c ρ differ word holds =
    let high = c.high.ensures ρ holds word in
    let most : whole (ρ c.args.a) ≤ℤ c.args.n = omega (arith, ints, high) in
    let past = past_high (whole (ρ c.args.a)) c.args.n most differ in
    let is = c.in-Some.ensures in
    c.at_most.ensures ρ (omega (arith, ints, past, is)) holds

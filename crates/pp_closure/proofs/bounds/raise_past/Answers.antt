use Rattle.std.proofs.Common.{arith}
use Rattle.std.proofs.lemmas.Int.{ints}
use Rattle.pp_closure.specs.Sums.{whole}
use Rattle.pp_closure.proofs.LinkedOrders.{past_low}
use Rattle.pp_closure.proofs.bounds.raise_past.Goals as goal
use lib.Signed.{◌≤ℤ◌}

pub returns-in-Some : goal.returns-in-Some
returns-in-Some c ρ differ word holds =
    let low = c.low.ensures ρ holds word in
    let least : c.args.n ≤ℤ whole (ρ c.args.a) = omega (arith, ints, low) in
    let past = past_low (whole (ρ c.args.a)) c.args.n least differ in
    let is = c.in-Some.ensures in
    c.at_least.ensures ρ (omega (arith, ints, past, is)) holds

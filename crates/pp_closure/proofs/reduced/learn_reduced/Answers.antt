use Rattle.std.proofs.Common.{arith}
use Rattle.std.proofs.lemmas.Int.{ints}
use Rattle.pp_closure.specs.Sums.{whole}
use Rattle.pp_closure.proofs.reduced.learn_reduced.Goals as goal
use lib.IntN.{pos}
use lib.Signed.{◌≤ℤ◌}

pub returns-then-low-ge0 : goal.returns-then-low-ge0
returns-then-low-ge0 c ρ reduces word holds =
    let low = c.low.ensures ρ holds word in
    let high = c.high-most.ensures ρ holds word in
    let natural : pos 0 ≤ℤ whole (ρ c.args.a) = omega (arith, ints, low) in
    let least = reduces.natural natural in
    let most = reduces.most natural in
    c.at_most.ensures ρ (omega (arith, ints, most, high)) (c.at_least.ensures ρ (omega (arith, ints, least)) holds)

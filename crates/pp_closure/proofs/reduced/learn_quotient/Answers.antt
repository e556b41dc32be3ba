use Rattle.std.proofs.Common.{arith}
use Rattle.std.proofs.lemmas.Int.{ints}
use Rattle.pp_closure.specs.Sums.{whole}
use Rattle.pp_closure.proofs.reduced.learn_quotient.Goals as goal
use lib.IntN.{pos}
use lib.Signed.{◌<ℤ◌}

pub returns-then-low-gt0 : goal.returns-then-low-gt0
returns-then-low-gt0 c ρ reduces a b holds =
    let low = c.low.ensures ρ holds b in
    let positive : pos 0 <ℤ whole (ρ c.args.b) = omega (arith, ints, low) in
    c.learn_reduced.ensures ρ (reduces positive) a holds

use Rattle.pp_steps.specs.Meaning.{bit}
use Rattle.pp_closure.specs.Sums.{whole}
use Rattle.pp_closure.proofs.LinkedOrders.{neither_less, not_said}
use Rattle.pp_closure.proofs.chains.learn_both_ways.Goals as goal

pub returns-then-is : goal.returns-then-is
returns-then-is c ρ compares not_less holds =
    let low = whole (ρ c.args.order.low) in
    let high = whole (ρ c.args.order.high) in
    let is = c.is.ensures ρ holds c.if-is.true in
    let said = not_said low high (bit (ρ c.args.number)) c.args.order.positive compares.says is in
    c.unite.ensures ρ (compares.one (neither_less low high said not_less)) holds

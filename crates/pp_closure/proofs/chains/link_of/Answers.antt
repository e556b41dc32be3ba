use Rattle.pp_closure.proofs.LinkedOrders.{less_apart, not_less_apart}
use Rattle.pp_closure.proofs.chains.link_of.Goals as goal

pub returns-then-is : goal.returns-then-is
returns-then-is c ρ compares holds =
    less_apart _ _ _ _ compares.says (c.is.ensures ρ holds c.if-is.true)

pub returns-then-is-2 : goal.returns-then-is-2
returns-then-is-2 c ρ compares holds =
    not_less_apart _ _ _ _ compares.says (c.is-else-is.ensures ρ holds c.if-is-2.true)

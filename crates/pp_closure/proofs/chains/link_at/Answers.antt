use Rattle.pp_closure.proofs.LinkedOrders.{if_some}
use Rattle.pp_closure.proofs.chains.link_at.Goals as goal

pub returns-in-Some : goal.returns-in-Some
returns-in-Some c =
    if_some c.link_of.result _ _
    (λ l go v holds. go v.values (c.in-Some.ensures v holds) holds)
    c.link_of.ensures

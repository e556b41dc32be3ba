use Rattle.pp_closure.proofs.LinkedOrders.{if_some}
use Rattle.pp_closure.proofs.chains.gap_of.Goals as goal

pub returns-in-Some : goal.returns-in-Some
returns-in-Some c =
    if_some c.gap_of_link.result _ _ (λ n go v holds. go v.values holds (c.in-Some.ensures v holds))
    c.gap_of_link.ensures

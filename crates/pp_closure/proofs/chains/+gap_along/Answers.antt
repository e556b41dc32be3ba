use Rattle.pp_closure.proofs.LinkedOrders.{apart_both, if_some, of_some}
use Rattle.pp_closure.proofs.chains.+gap_along.Goals as goal

pub returns-in-Some : goal.returns-in-Some
returns-in-Some t c =
    if_some c.both.result _ _
    (λ n h v holds.
    apart_both _ _ _ h.0 h.1 n (of_some c.gap_of.result _ h.0 c.gap_of.ensures h.2 v holds)
    (of_some c.gap_along.result _ h.1 c.gap_along.ensures h.3 v holds) h.4)
    c.both.ensures

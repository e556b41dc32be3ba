use Rattle.pp_closure.proofs.LinkedOrders.{said_less, said_not_less}
use Rattle.pp_closure.proofs.chains.learn_by_chain.Goals as goal

pub returns-then-shows_less : goal.returns-then-shows_less
returns-then-shows_less c v holds =
    c.assume.ensures v.values
    (said_less _ _ _ (c.in-Some.ensures v holds).says (c.shows_less.ensures v holds c.if-shows_less.true)) holds

pub returns-then-shows_at_most : goal.returns-then-shows_at_most
returns-then-shows_at_most c v holds =
    c.assume-then-shows_at_most.ensures v.values
    (said_not_less _ _ _ (c.in-Some.ensures v holds).says (c.shows_at_most.ensures v holds c.if-shows_at_most.true)) holds

pub returns-then-shows_at_most-2 : goal.returns-then-shows_at_most-2
returns-then-shows_at_most-2 c v holds =
    c.learn_both_ways.ensures v.values (c.in-Some.ensures v holds)
    (c.shows_at_most-else-shows_at_most.ensures v holds c.if-shows_at_most-2.true) holds

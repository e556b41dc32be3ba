use Rattle.pp_closure.proofs.Said.{on_ok}
use Rattle.pp_closure.proofs.additions.learn_addition.Goals as goal

pub returns-in-Some : goal.returns-in-Some
returns-in-Some c =
    on_ok c.learn_thirds.result _ _
    (λ go v holds.
    let adds = c.in-Some.ensures v in
    go v adds (c.learn_amounts.ensures v.values adds
    (c.learn_nothing-in-Some.ensures v.values (c.turned.ensures.adds v.values adds)
    (c.learn_nothing.ensures v.values adds holds))))
    c.learn_thirds.ensures

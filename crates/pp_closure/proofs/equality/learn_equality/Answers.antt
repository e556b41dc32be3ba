use Rattle.pp_closure.proofs.equality.learn_equality.Goals as goal

pub returns : goal.returns
returns c v sorts a b says holds =
    c.learn_differing.ensures v sorts a b says
    (c.learn_opposite.ensures v sorts a b says
    (c.learn_united.ensures v.values says
    (c.learn_known.ensures v.values _ (c.in_ok-equal.ensures v sorts a b holds) says holds)))

use Rattle.pp_closure.proofs.additions.learn_third.Goals as goal

pub returns-in-Some-addition_at : goal.returns-in-Some-addition_at
returns-in-Some-addition_at c v it holds =
    let like = c.in-Some-addition_at.ensures v in
    c.learn_alike_sums-in-Some-addition_at.ensures v.values it (c.turned.ensures.adds v.values like)
    (c.learn_alike_sums.ensures v.values it like holds)

use Rattle.pp_closure.proofs.amounts.exact_at.Goals as goal

pub returns-then-is_exact : goal.returns-then-is_exact
returns-then-is_exact c v holds =
    let adds = c.in-Some.ensures v in (adds, c.is_exact.ensures v.values adds holds c.if-is_exact.true)

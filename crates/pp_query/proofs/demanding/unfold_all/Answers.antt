use Rattle.pp_query.proofs.demanding.unfold_all.Goals as goal

pub loop-it-preserved : goal.loop-it-preserved
loop-it-preserved c f check stand is =
    let before = c.loop-it.invariant f check stand is in c.in_ok-longer.ensures f check before.0 before.1

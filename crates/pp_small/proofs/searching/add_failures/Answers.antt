use Rattle.pp_small.proofs.searching.add_failures.Goals as goal

pub loop-args-preserved : goal.loop-args-preserved
loop-args-preserved c =
    let q = c.args.question in
    c.in_ok-add_failure.ensures c.args.program.now q.function.0 q.fuel q.depth c.loop-args.invariant
    c.in_ok-failed.ensures

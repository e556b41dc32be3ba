use Rattle.pp_symbolic.proofs.Names.{looks_more}
use Rattle.pp_symbolic.proofs.naming.looks.Goals as goal

pub loop-step-preserved : goal.loop-step-preserved
loop-step-preserved c =
    looks_more c.args.steps.now _ _ _ c.step-item.result c.loop-step.invariant c.loop-step-test.true c.step-item.is
    c.looks_of-count.ensures

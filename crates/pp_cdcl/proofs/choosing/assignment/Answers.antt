use Rattle.std.proofs.Common.{arith, List, subst}
use Rattle.pp_trail.specs.declared.step.Step.{Step}
use Rattle.pp_trail.specs.Trail.{StandsAt}
use Rattle.pp_cdcl.proofs.Reading.{step_up_to, reads_more}
use Rattle.pp_cdcl.proofs.choosing.assignment.Goals as goal

pub index_mut-requires : goal.index_mut-requires
index_mut-requires c =
    let every = c.loop-step.invariant.every in
    let at : StandsAt c.args.watch.now.steps c.loop-step.step-index c.step-item.result =
    subst (λ (z : List Step). StandsAt z c.loop-step.step-index c.step-item.result) c.trail-step-items.ensures.value
    (record { within = c.loop-step-test.true; is = c.step-item.is }) in
    let up = step_up_to _ _ _ _ _ c.trail-step-items.ensures.trail at in
    omega (arith, c.var.ensures.value, c.var.ensures.low)

pub loop-step-preserved : goal.loop-step-preserved
loop-step-preserved c =
    let every = c.loop-step.invariant.every in
    let at : StandsAt c.args.watch.now.steps c.loop-step.step-index c.step-item.result =
    subst (λ (z : List Step). StandsAt z c.loop-step.step-index c.step-item.result) c.trail-step-items.ensures.value
    (record { within = c.loop-step-test.true; is = c.step-item.is }) in
    record {
      every = every;
      reads = rw (c.var.ensures.value, c.is_positive.ensures)
          (reads_more _ _ _ _ _ _ c.trail-step-items.ensures.trail at (omega (arith, c.loop-step.values.ok.0))
          c.loop-step.invariant.reads (omega (arith, c.var.ensures.value, c.var.ensures.low)));
    }

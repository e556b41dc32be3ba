use Rattle.std.proofs.Common.{arith, ◌∙◌, List, ap, refl}
use Rattle.pp_steps.specs.declared.step.Step.{Step}
use Rattle.pp_simplify.specs.Folded.{folded, source}
use Rattle.pp_simplify.specs.Names.{Names, named}
use Rattle.pp_simplify.specs.Operands.{renamed}
use Rattle.pp_simplify.proofs.Turns.{folded_end, folded_turn}
use Rattle.pp_simplify.proofs.folding.fold.Goals as goal

pub loop-step-preserved : goal.loop-step-preserved
loop-step-preserved c =
    let is = c.in_ok-new.ensures
    ∙ ap (λ (l : List Step). folded l (renamed (named c.as_slice-in-loop-step.result.now) c.step-item.result))
    c.as_slice.ensures
    ∙ ap (λ (l : Names). folded c.loop-step.news (renamed (named l) c.step-item.result))
    c.as_slice-in-loop-step.ensures in
    let from = c.source.ensures ∙ ap (λ (l : List Step). source l c.in_ok-new.new) c.as_slice-in-loop-step-2.ensures in
    folded_turn c.args.steps.now c.loop-step.step-index _ c.step-item.result c.in_ok-new.new c.source.result
    c.loop-step.news _ c.loop-step.names _ c.loop-step-test.true refl c.step-item.is c.loop-step.invariant is from
    c.in_ok-push-2.ensures.ok c.in_ok-push.ensures.ok

pub returns-clause-steps : goal.returns-clause-steps
returns-clause-steps c =
    (folded_end c.args.steps.now c.loop-step.step-index c.loop-step.news c.loop-step.names (omega arith)
    c.loop-step.invariant).0

pub returns-clause-names : goal.returns-clause-names
returns-clause-names c =
    (folded_end c.args.steps.now c.loop-step.step-index c.loop-step.news c.loop-step.names (omega arith)
    c.loop-step.invariant).1

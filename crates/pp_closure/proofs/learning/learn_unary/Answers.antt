use Rattle.std.proofs.Common.{Some, ap, ◌∙◌}
use Rattle.pp_tree.specs.declared.operator.UnaryOp.{UnaryOp}
use Rattle.pp_steps.specs.declared.step.Step.TheVariants as steps
use Rattle.pp_closure.proofs.Said.{not_operator_said}
use Rattle.pp_closure.proofs.learning.learn_unary.Goals as goal

pub returns-in-Not : goal.returns-in-Not
returns-in-Not c v holds =
    let step : UnaryOp → _ = λ op. Some (steps.Unary op c.args.a) in
    let at = c.requires ∙ ap step c.in-Not.is in
    c.learn_not.ensures v.values (not_operator_said _ v _ _ at) holds

use Rattle.std.proofs.Common.{Some, sym, subst, ap, ◌∙◌}
use Rattle.pp_tree.specs.declared.operator.BinaryOp.{BinaryOp}
use Rattle.pp_steps.specs.declared.step.Step.TheVariants as steps
use Rattle.pp_closure.specs.Order.{Ordered, Says}
use Rattle.pp_closure.proofs.Ordered.{ordered, says_op}
use Rattle.pp_closure.proofs.Said.{differ_compared, differ_said, equal_compared, equal_said, on_ok}
use Rattle.pp_closure.proofs.LessNumbers.{quotient_at}
use Rattle.pp_closure.proofs.Remainders.{remainder_at}
use Rattle.pp_closure.proofs.learning.learn_operator.Goals as goal

pub returns-in-Equal : goal.returns-in-Equal
returns-in-Equal c =
    let step : BinaryOp → _ = λ op. Some (steps.Binary op c.args.a c.args.b) in
    let at = c.requires ∙ ap step c.in-Equal.is in
    on_ok c.learn_equality.result _ _
    (λ go v holds. let are = equal_compared _ v _ _ _ at in
    go v are.sort are.left are.right (equal_said _ v _ _ _ at) holds)
    c.learn_equality.ensures

pub returns-in-Differ : goal.returns-in-Differ
returns-in-Differ c =
    let step : BinaryOp → _ = λ op. Some (steps.Binary op c.args.a c.args.b) in
    let at = c.requires ∙ ap step c.in-Differ.is in
    on_ok c.learn_equality-in-Differ.result _ _
    (λ go v holds. let are = differ_compared _ v _ _ _ at in
    go v are.sort are.left are.right (differ_said _ v _ _ _ at) holds)
    c.learn_equality-in-Differ.ensures

pub returns-in-Rem : goal.returns-in-Rem
returns-in-Rem c v holds =
    let step : BinaryOp → _ = λ op. Some (steps.Binary op c.args.a c.args.b) in
    let r = remainder_at _ v _ _ _ (c.requires ∙ ap step c.in-Rem.is) in
    c.learn_remainder.ensures v.values r.leaves r.left r.right holds

pub returns-in-Div : goal.returns-in-Div
returns-in-Div c v holds =
    let step : BinaryOp → _ = λ op. Some (steps.Binary op c.args.a c.args.b) in
    let q = quotient_at _ v _ _ _ (c.requires ∙ ap step c.in-Div.is) in
    c.learn_quotient.ensures v.values q.reduces q.left q.right holds

pub learn_common_bits-requires : goal.learn_common_bits-requires
learn_common_bits-requires c =
    let step : BinaryOp → _ = λ op. Some (steps.Binary op c.args.a c.args.b) in
    c.requires ∙ ap step c.in-And.is

pub learn_shifted-requires : goal.learn_shifted-requires
learn_shifted-requires c =
    let step : BinaryOp → _ = λ op. Some (steps.Binary op c.args.a c.args.b) in
    c.requires ∙ ap step c.in-Shr.is

pub learn_shifted_unsigned-requires : goal.learn_shifted_unsigned-requires
learn_shifted_unsigned-requires c =
    let step : BinaryOp → _ = λ op. Some (steps.Binary op c.args.a c.args.b) in
    c.requires ∙ ap step c.in-Ushr.is

pub returns-in_ok-learn_offsets-in-Some : goal.returns-in_ok-learn_offsets-in-Some
returns-in_ok-learn_offsets-in-Some c =
    on_ok c.learn_order.result _ _
    (λ go v holds.
    let is = sym c.order_of.ensures ∙ c.in-Some.is in
    let o = subst (Ordered v.values c.args.number) is
    (ordered _ v c.args.number c.args.op c.args.a c.args.b c.requires) in
    go v
    (subst (Says v.values c.args.number) is (says_op _ v c.args.number c.args.op c.args.a c.args.b c.requires))
    (c.in_ok-learn_offsets-in-Some.ensures v (c.learn_bounds.ensures v.values o.says o.low o.high holds)))
    c.learn_order.ensures

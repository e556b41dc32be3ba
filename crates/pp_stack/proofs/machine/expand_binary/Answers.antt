use Rattle.std.proofs.Common.{ap, sym}
use Rattle.pp_tree.specs.declared.operator.BinaryOp.{BinaryOp}
use Rattle.pp_stack.specs.Left.{left, plan_binary}
use Rattle.pp_stack.proofs.Todos.{left_pushed2, left_pushed3}
use Rattle.pp_stack.proofs.Plans.{plan_operator}
use Rattle.pp_stack.proofs.machine.expand_binary.Goals as goal

pub returns-in_ok-push-in-AndAlso : goal.returns-in_ok-push-in-AndAlso
returns-in_ok-push-in-AndAlso c =
    let k = left c.args.code c.args.todo.now in
    left_pushed2 c.args.code c.push-in-AndAlso.result c.args.todo.now c.push.new.self c.push-in-AndAlso.new.self _ _ _
    c.in_ok-push-in-AndAlso.ensures.ok c.push-in-AndAlso.ensures.ok
    (ap (λ (op : BinaryOp). plan_binary c.args.code op c.args.a.now c.args.b.now c.args.check k) (sym c.in-AndAlso.is))

pub returns-in_ok-push-in-OrElse : goal.returns-in_ok-push-in-OrElse
returns-in_ok-push-in-OrElse c =
    let k = left c.args.code c.args.todo.now in
    left_pushed2 c.args.code c.push-in-OrElse-2.result c.args.todo.now c.push-in-OrElse.new.self
    c.push-in-OrElse-2.new.self _ _ _ c.in_ok-push-in-OrElse.ensures.ok c.push-in-OrElse-2.ensures.ok
    (ap (λ (op : BinaryOp). plan_binary c.args.code op c.args.a.now c.args.b.now c.args.check k) (sym c.in-OrElse.is))

pub returns-in_ok-push-in_default-2 : goal.returns-in_ok-push-in_default-2
returns-in_ok-push-in_default-2 c =
    left_pushed3 c.args.code c.push-in_default-3.result c.args.todo.now c.push-in_default.new.self
    c.push-in_default-2.new.self c.push-in_default-3.new.self _ _ _ _ c.in_ok-push-in_default.ensures.ok
    c.in_ok-push-in_default-2.ensures.ok c.push-in_default-3.ensures.ok
    (plan_operator c.args.code c.args.op c.args.a.now c.args.b.now c.args.check (left c.args.code c.args.todo.now)
    c.in_default.not-AndAlso c.in_default.not-OrElse)

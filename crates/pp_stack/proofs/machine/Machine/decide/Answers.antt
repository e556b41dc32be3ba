use Rattle.std.proofs.Common.{◌∙◌, ap}
use Rattle.pp_store.specs.Values.{value_of}
use Rattle.pp_stack.specs.Left.{choose, evaluate, forget, go_on, left}
use Rattle.pp_stack.specs.State.{forgotten, popped, state_of}
use Rattle.pp_stack.proofs.Conditions.{condition_false, condition_true, top_goes}
use Rattle.pp_stack.proofs.Steps.{comes_push, comes_push2}
use Rattle.pp_stack.proofs.machine.Machine.decide.Goals as goal

pub returns-in_ok-push-2 : goal.returns-in_ok-push-2
returns-in_ok-push-2 c =
    let m = c.args.self.now in
    let k = left c.args.code m.todo in
    let s = state_of m.stacks in
    let st = state_of c.test.new.self in
    let sp = state_of c.pop.new.self in
    comes_push2 c.args.code s.here m.todo c.push.new.self c.push-then-branch.new.self _ _ c.pop.new.self _
    c.in_ok-pop.ensures.0 c.in_ok-push.ensures.ok c.in_ok-push-2.ensures.ok
    (top_goes s.here st sp (value_of c.pop.new.self.store c.in_ok-pop.field-0)
    (λ q. evaluate c.args.code c.args.body.now (forget c.args.count k) q.1) c.in_ok-pop.ensures.2
    ∙ condition_true s.here s st
    (λ t. go_on s.here (popped t) (λ q. evaluate c.args.code c.args.body.now (forget c.args.count k) q.1))
    (λ t. choose c.args.code c.args.others.now c.args.check k (forgotten c.args.count t))
    c.in_ok-test.field-0 c.in_ok-test.ensures.1 c.if-branch.true)

pub returns-in_ok-push-3 : goal.returns-in_ok-push-3
returns-in_ok-push-3 c =
    let m = c.args.self.now in
    let k = left c.args.code m.todo in
    let s = state_of m.stacks in
    let st = state_of c.test.new.self in
    comes_push c.args.code s.here m.todo c.push-else-branch.new.self _ c.forget.new.self _
    c.forget.ensures.held c.in_ok-push-3.ensures.ok
    (ap (choose c.args.code c.args.others.now c.args.check k) c.forget.ensures.state
    ∙ condition_false s.here s st
    (λ t. go_on s.here (popped t) (λ q. evaluate c.args.code c.args.body.now (forget c.args.count k) q.1))
    (λ t. choose c.args.code c.args.others.now c.args.check k (forgotten c.args.count t))
    c.in_ok-test.field-0 c.in_ok-test.ensures.1 c.if-branch.false)

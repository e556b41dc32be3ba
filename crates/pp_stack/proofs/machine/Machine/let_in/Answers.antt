use Rattle.std.proofs.Common.{sym, ap}
use Rattle.pp_eval.specs.Part.{Part}
use Rattle.pp_stack.specs.Left.{evaluate, forget, go_on, left}
use Rattle.pp_stack.specs.State.{State, state_of}
use Rattle.pp_stack.proofs.Steps.{comes_push2}
use Rattle.pp_stack.proofs.machine.Machine.let_in.Goals as goal

pub returns : goal.returns
returns c =
    let k = left c.args.code c.args.self.now.todo in
    let s = state_of c.args.self.now.stacks in
    comes_push2 c.args.code s.here c.args.self.now.todo c.push.new.self c.push-2.new.self _ _ c.bind_one.new.self _
    c.in_ok-bind_one.ensures.0 c.in_ok-push.ensures.ok c.in_ok-push-2.ensures.ok
    (sym (ap (λ (r : Part State). go_on s.here r (evaluate c.args.code c.args.rest.now (forget 1 k)))
    c.in_ok-bind_one.ensures.1))

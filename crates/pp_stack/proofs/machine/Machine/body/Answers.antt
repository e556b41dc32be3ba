use Rattle.std.proofs.Common.{ap}
use Rattle.pp_stack.specs.declared.todo.Here.{Here}
use Rattle.pp_stack.specs.Left.{evaluate, leave, left}
use Rattle.pp_stack.specs.State.{at_frame, state_of}
use Rattle.pp_stack.proofs.Steps.{comes_push2}
use Rattle.pp_stack.proofs.machine.Machine.body.Goals as goal

pub returns : goal.returns
returns c =
    let m = c.args.self.now in
    let k = left c.args.code m.todo in
    let s = state_of m.stacks in
    comes_push2 c.args.code s.here m.todo c.push.new.self c.push-2.new.self _ _
    (record m.stacks { here = c.inner-self.result }) _
    (record { temps = c.requires.temps; env = c.requires.env; measures = c.requires.measures })
    c.in_ok-push.ensures.ok c.in_ok-push-2.ensures.ok
    (ap (λ (h : Here). evaluate c.args.code c.args.site.function.now.body (leave s.here k) (at_frame h s))
    c.inner-self.ensures)

use Rattle.std.proofs.Common.{◌∙◌, sym, ap}
use Rattle.pp_stack.specs.declared.todo.Here.{Here}
use Rattle.pp_stack.specs.Left.{admit, back, evaluate, left}
use Rattle.pp_stack.specs.State.{at_frame, state_of}
use Rattle.pp_stack.proofs.Calls.{enter_admits}
use Rattle.pp_stack.proofs.Steps.{comes_push3}
use Rattle.pp_stack.proofs.machine.Machine.enter.Goals as goal

pub returns-in_ok-push-in-Some-3 : goal.returns-in_ok-push-in-Some-3
returns-in_ok-push-in-Some-3 c =
    let m = c.args.self.now in
    let k = left c.args.code m.todo in
    let s = state_of m.stacks in
    comes_push3 c.args.code s.here m.todo c.push.new.self c.push-in-Some.new.self c.push-in-Some-2.new.self _ _ _
    (record m.stacks { here = c.inner-self.result }) _
    (record { temps = c.requires.temps; env = c.requires.env; measures = c.requires.measures })
    c.in_ok-push-in-Some.ensures.ok c.in_ok-push-in-Some-2.ensures.ok c.in_ok-push-in-Some-3.ensures.ok
    (ap (λ (h : Here). evaluate c.args.code c.in-Some.condition (back s.here (admit c.args.code c.args.site k))
    (at_frame h s)) c.inner-self.ensures
    ∙ sym (enter_admits c.args.code k s c.args.site c.in-Some.condition c.in-Some.is))

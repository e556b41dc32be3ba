use Rattle.pp_prog.specs.declared.value.Value.TheVariants.{Bool as Truth}
use Rattle.std.proofs.Common.{false}
use Rattle.pp_stack.specs.Left.{evaluate, left}
use Rattle.pp_stack.specs.State.{pushed, state_of}
use Rattle.pp_stack.proofs.Conditions.{condition_true}
use Rattle.pp_stack.proofs.Steps.{comes_push}
use Rattle.pp_stack.proofs.machine.Machine.and_also.Goals as goal

pub returns-in_ok-push : goal.returns-in_ok-push
returns-in_ok-push c =
    let k = left c.args.code c.args.self.now.todo in
    let s = state_of c.args.self.now.stacks in
    comes_push c.args.code s.here c.args.self.now.todo c.push.new.self _ c.test.new.self _ c.in_ok-test.ensures.0
    c.in_ok-push.ensures.ok
    (condition_true s.here s (state_of c.test.new.self) (evaluate c.args.code c.args.b.now k)
    (λ t. k (pushed t (Truth false))) c.in_ok-test.field-0 c.in_ok-test.ensures.1 c.if-branch.true)

use Rattle.std.proofs.Common.{ap}
use Rattle.pp_stack.specs.Left.{Rest, left, value_in}
use Rattle.pp_stack.specs.State.{state_of}
use Rattle.pp_stack.proofs.Ends.{left_alone, value_ends}
use Rattle.pp_stack.proofs.machine.Machine.value.Goals as goal

pub returns : goal.returns
returns c =
    let m = c.args.self.now in
    let s = state_of m.stacks in
    value_ends s (value_in c.args.code c.args.e.now s) (left c.args.code c.push.new.self s)
    (ap (λ (k : Rest). k s) (left_alone c.args.code m.todo c.push.new.self _ c.requires.idle c.in_ok-push.ensures.ok))
    c.in_ok-run.field-0 c.pop.result c.run.new.self.todo c.run.new.self.stacks c.pop.new.self c.in_ok-run.ensures
    c.pop.ensures

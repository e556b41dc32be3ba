use Rattle.std.proofs.Common.{ap}
use Rattle.pp_stack.specs.Left.{Rest, left}
use Rattle.pp_stack.specs.State.{state_of}
use Rattle.pp_stack.proofs.Ends.{left_alone}
use Rattle.pp_stack.proofs.Starts.{measures_are}
use Rattle.pp_stack.proofs.machine.Machine.measure.Goals as goal

pub returns : goal.returns
returns c =
    let m = c.args.self.now in
    let s = state_of m.stacks in
    measures_are c.args.code s.here.fuel s.env c.args.exprs.now c.if-is_empty.ensures c.in_ok-run.field-0
    c.run.new.self.todo c.run.new.self.stacks c.measure.new.self c.in_ok-count.count s
    (left c.args.code c.push.new.self s)
    c.requires.own
    (ap (λ (k : Rest). k s) (left_alone c.args.code m.todo c.push.new.self _ c.requires.idle c.in_ok-push.ensures.ok))
    c.in_ok-run.ensures c.in_ok-count.ensures.held c.in_ok-count.ensures.state c.in_ok-count.ensures.count

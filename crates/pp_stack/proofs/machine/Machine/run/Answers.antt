use Rattle.std.proofs.Common.{◌≡◌, ◌∙◌, Err, rules, sym}
use Rattle.pp_stack.specs.State.{state_of}
use Rattle.pp_stack.proofs.Steps.{halt_ends, turn_left}
use Rattle.pp_stack.proofs.machine.Machine.run.Goals as goal

pub returns-in_err-take-in-Some : goal.returns-in_err-take-in-Some
returns-in_err-take-in-Some c =
    let stopped : c.from_residual.result ≡ Err c.in_err-take-in-Some.field-0.0 = search rules in
    halt_ends (Unit {0}) c.args.code c.from_residual.result c.in_err-take-in-Some.field-0.0 c.take.new.self
    c.take.new.self _ _ stopped
    (turn_left c.args.code c.loop-turns.self.todo c.pop.new.self c.in-Some.todo (state_of c.loop-turns.self.stacks) _
    c.in-Some.ensures c.loop-turns.invariant.1)
    c.in_err-take-in-Some.ensures

pub loop-turns-preserved : goal.loop-turns-preserved
loop-turns-preserved c = (
  c.in_ok-take-in-Some.ensures.0,
  sym c.in_ok-take-in-Some.ensures.1
      ∙ turn_left c.args.code c.loop-turns.self.todo c.pop.new.self c.in-Some.todo (state_of c.loop-turns.self.stacks) _
      c.in-Some.ensures c.loop-turns.invariant.1,
)

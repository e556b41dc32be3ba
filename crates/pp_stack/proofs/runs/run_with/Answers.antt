use Rattle.std.proofs.Common.{◌≡◌, Err, rules, subst}
use Rattle.pp_eval.specs.Part.{Tells}
use Rattle.pp_stack.specs.State.{state_of}
use Rattle.pp_stack.proofs.Outcomes.{run_begins, run_halts, run_outside}
use Rattle.pp_stack.proofs.runs.run_with.Goals as goal

pub returns-in_err-holds : goal.returns-in_err-holds
returns-in_err-holds c =
    let stopped : c.from_residual-in_err-holds.result ≡ Err c.in_err-holds.field-0.0 = search rules in
    run_halts c.args.code c.args.f.now c.args.fuel c.args.args.now (state_of c.in_ok-machine.machine.stacks)
    c.in_ok-machine.ensures.stand.same c.holds.new.self c.from_residual-in_err-holds.result
    c.in_err-holds.field-0.0 stopped c.in_err-holds.ensures

pub returns-then-branch : goal.returns-then-branch
returns-then-branch c =
    subst (Tells c.start.result)
    (run_begins c.args.code c.args.f.now c.args.fuel c.args.args.now (state_of c.in_ok-machine.machine.stacks)
    c.in_ok-machine.ensures.stand.same c.in_ok-holds.field-0 (state_of c.holds.new.self.stacks)
    c.in_ok-holds.ensures.0.stand.same c.in_ok-holds.ensures.1 c.if-branch.true)
    c.start.ensures

pub returns : goal.returns
returns c =
    run_outside c.args.code c.args.f.now c.args.fuel c.args.args.now (state_of c.in_ok-machine.machine.stacks)
    c.in_ok-machine.ensures.stand.same c.in_ok-holds.field-0 c.in_ok-holds.ensures.1 c.if-branch.false

use Rattle.pp_prog.specs.Fits.{fit}
use Rattle.pp_store.specs.Values.{value_of}
use Rattle.pp_stack.specs.Left.{left}
use Rattle.pp_stack.specs.State.{state_of}
use Rattle.pp_stack.proofs.Attempts.{attempt_guarded, attempt_misfit, attempt_taken, binds_none, binds_some}
use Rattle.pp_stack.proofs.Steps.{comes_push, comes_push2}
use Rattle.pp_stack.proofs.machine.Machine.attempt.Goals as goal

pub returns-in_ok-push-in-None-2 : goal.returns-in_ok-push-in-None-2
returns-in_ok-push-in-None-2 c =
    let m = c.args.self.now in
    let s = state_of m.stacks in
    let bound = fit c.args.case.now.pattern (value_of m.stacks.store c.args.held) in
    let binds = binds_none _ s c.bind.new.self bound c.in-None.is c.in_ok-bind.ensures.bound in
    comes_push c.args.code s.here m.todo c.push-in-None.new.self _ c.push.new.self _
    c.in_ok-push-in-None.ensures.moved.0 c.in_ok-push-in-None-2.ensures.ok
    (attempt_misfit c.args.code (left c.args.code m.todo) s c.args.case.now c.args.others.now c.args.check
    m.stacks.store c.args.held (state_of c.bind.new.self) (state_of c.push.new.self) c.bind.new.self.store
    binds.0 binds.1.same c.in_ok-bind.ensures.store c.in_ok-push-in-None.ensures.moved.1)

pub returns-in_ok-push-in-None-guard-2 : goal.returns-in_ok-push-in-None-guard-2
returns-in_ok-push-in-None-guard-2 c =
    let m = c.args.self.now in
    let s = state_of m.stacks in
    let bound = fit c.args.case.now.pattern (value_of m.stacks.store c.args.held) in
    let binds = binds_some _ c.in-Some.count s c.bind.new.self bound c.in-Some.is c.in_ok-bind.ensures.bound in
    comes_push2 c.args.code s.here m.todo c.push-in-None-guard.new.self c.push-in-None-guard-2.new.self _ _
    c.bind.new.self _ binds.3.all
    c.in_ok-push-in-None-guard.ensures.ok c.in_ok-push-in-None-guard-2.ensures.ok
    (attempt_taken c.args.code (left c.args.code m.todo) s c.args.case.now c.args.others.now c.args.check
    m.stacks.store c.args.held (state_of c.bind.new.self) binds.0 c.in-Some.count binds.1 binds.2 binds.3.same
    c.in-None-guard.is)

pub returns-in_ok-push-in-Some-guard-3 : goal.returns-in_ok-push-in-Some-guard-3
returns-in_ok-push-in-Some-guard-3 c =
    let m = c.args.self.now in
    let s = state_of m.stacks in
    let bound = fit c.args.case.now.pattern (value_of m.stacks.store c.args.held) in
    let binds = binds_some _ c.in-Some.count s c.bind.new.self bound c.in-Some.is c.in_ok-bind.ensures.bound in
    comes_push2 c.args.code s.here m.todo c.push-in-Some-guard-2.new.self c.push-in-Some-guard-3.new.self _ _
    c.push-in-Some-guard.new.self _ c.in_ok-push-in-Some-guard.ensures.moved.0
    c.in_ok-push-in-Some-guard-2.ensures.ok c.in_ok-push-in-Some-guard-3.ensures.ok
    (attempt_guarded c.args.code (left c.args.code m.todo) s c.args.case.now c.args.others.now c.args.check
    m.stacks.store c.args.held (state_of c.bind.new.self) (state_of c.push-in-Some-guard.new.self)
    c.bind.new.self.store binds.0 c.in-Some.count c.in-Some-guard.guard binds.1 binds.2 binds.3.same
    c.in_ok-bind.ensures.store c.in_ok-push-in-Some-guard.ensures.moved.1 c.in-Some-guard.is)

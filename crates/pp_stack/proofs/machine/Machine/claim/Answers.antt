use Rattle.std.proofs.Common.{◌≡◌, Err, rules}
use Rattle.pp_store.specs.Values.{value_of}
use Rattle.pp_stack.specs.State.{state_of}
use Rattle.pp_stack.proofs.Claims.{claim_fails, claim_holds, claim_stops}
use Rattle.pp_stack.proofs.machine.Machine.claim.Goals as goal

pub returns-in_err-truth : goal.returns-in_err-truth
returns-in_err-truth c =
    let s = c.args.self.now.stacks in
    let stopped : c.from_residual-in_err-truth.result ≡ Err c.in_err-truth.field-0.0 = search rules in
    claim_stops c.args.code (state_of s) (value_of s.store c.args.held) c.args.check c.args.claim.now
    (state_of c.bind_held.new.self) c.in_ok-bind_held.ensures.1 c.from_residual-in_err-truth.result
    c.in_err-truth.field-0.0 c.truth.new.self c.truth.new.self.stacks.store stopped c.in_err-truth.ensures

pub returns-then-branch : goal.returns-then-branch
returns-then-branch c =
    let s = c.args.self.now.stacks in
    claim_holds c.args.code (state_of s) (value_of s.store c.args.held) c.args.check c.args.claim.now
    (state_of c.bind_held.new.self) c.in_ok-bind_held.ensures.1 c.in_ok-truth.field-0
    (state_of c.truth.new.self.stacks) c.pop.result c.pop.new.self c.in_ok-truth.ensures.0.stand.same
    c.in_ok-truth.ensures.1 c.if-branch.true c.pop.ensures

pub returns-else-branch : goal.returns-else-branch
returns-else-branch c =
    let s = c.args.self.now.stacks in
    claim_fails c.args.code (state_of s) (value_of s.store c.args.held) c.args.check c.args.claim.now
    (state_of c.bind_held.new.self) c.in_ok-bind_held.ensures.1 c.in_ok-truth.field-0 c.in_ok-truth.ensures.1
    c.if-branch.false

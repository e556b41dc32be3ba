use Rattle.std.proofs.Common.{subst}
use Rattle.pp_eval.specs.Part.{Part}
use Rattle.pp_stack.specs.Moves.{Moves}
use Rattle.pp_stack.specs.State.{State, state_of}
use Rattle.pp_stack.proofs.Attempts.{bound_again}
use Rattle.pp_stack.proofs.stacks.Stacks.bind_held.Goals as goal

pub returns : goal.returns
returns c =
    let s = c.args.self.now in
    subst (λ (p : Part State). Moves c.bind_one.result c.bind_one.new.self p)
    (bound_again (state_of s) (state_of c.push.new.self) (state_of c.push-2.new.self) s.store c.push.new.self.store
    c.args.held c.in_ok-push.ensures.moved.1 c.in_ok-push.ensures.store c.in_ok-push-2.ensures.moved.1)
    c.bind_one.ensures

use Rattle.pp_stack.proofs.Lifts.{push_moves}
use Rattle.pp_stack.proofs.stacks.Stacks.push.Goals as goal

pub returns-clause-moved : goal.returns-clause-moved
returns-clause-moved c =
    push_moves c.args.self.now c.args.held c.push.new.self c.requires.all c.requires.one c.in_ok-push.ensures.ok

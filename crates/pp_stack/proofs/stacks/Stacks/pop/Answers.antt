use Rattle.pp_stack.proofs.Lifts.{none_popped, pop_moves}
use Rattle.pp_stack.proofs.stacks.Stacks.pop.Goals as goal

pub returns-in-Some : goal.returns-in-Some
returns-in-Some c = pop_moves c.args.self.now c.in-Some.held c.pop.new.self c.requires c.in-Some.ensures

pub returns-in-None : goal.returns-in-None
returns-in-None c = none_popped c.args.self.now c.in-None.ensures.0

use Rattle.pp_watch.proofs.Attached.{attaches_along}
use Rattle.pp_watch.proofs.state.State.attach_all.Goals as goal

pub returns-in-Some-clause-attaches : goal.returns-in-Some-clause-attaches
returns-in-Some-clause-attaches c =
    attaches_along c.args.self.now c.loop-self.self c.attach.new.self c.loop-self.invariant
    c.in_ok-number.ensures.attaches

pub loop-self-preserved : goal.loop-self-preserved
loop-self-preserved c = attaches_along c.args.self.now c.loop-self.self c.attach.new.self c.loop-self.invariant
    c.in_ok-number.ensures.attaches

use Rattle.pp_watch.proofs.States.{grows_along}
use Rattle.pp_watch.proofs.state.State.close.Goals as goal

pub returns-in-Some-2-clause-grows : goal.returns-in-Some-2-clause-grows
returns-in-Some-2-clause-grows c = grows_along c.args.self.now.trail c.attach_all.new.self.trail
    c.visit_all.new.self.trail c.in_ok-number.ensures.attaches.grows c.in_ok-number-2.ensures.grows

pub returns-clause-grows : goal.returns-clause-grows
returns-clause-grows c = rw c.note_level.ensures.trail
    (grows_along c.args.self.now.trail c.attach_all.new.self.trail c.visit_all.new.self.trail
    c.in_ok-number.ensures.attaches.grows c.in_ok-number-2.ensures.grows)

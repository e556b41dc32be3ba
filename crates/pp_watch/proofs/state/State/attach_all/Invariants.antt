use Rattle.std.proofs.Common.{◌-◌, length}
use Rattle.pp_watch.specs.Attaching.{Attaches}
use Rattle.pp_watch.proofs.state.State.attach_all.Given as goal

abbrev pub invariant-loop-self : goal.invariant-loop-self
invariant-loop-self l = Attaches l.initial.self l.self

abbrev pub decreases-loop-self : goal.decreases-loop-self
decreases-loop-self l = length l.self.trail.clauses - length l.self.heads.items

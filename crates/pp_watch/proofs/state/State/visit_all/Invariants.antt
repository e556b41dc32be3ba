use Rattle.std.proofs.Common.{◌≡◌, ◌-◌, length}
use Rattle.pp_watch.specs.Watching.{IsSound, Grows}
use Rattle.pp_watch.proofs.state.State.visit_all.Given as goal

abbrev pub invariant-loop-self : goal.invariant-loop-self
invariant-loop-self l = record {
  grows : Grows l.initial.self.trail l.self.trail;
  sound : IsSound l.self;
  heads : length l.self.heads.items ≡ length l.initial.self.heads.items;
}

abbrev pub decreases-loop-self : goal.decreases-loop-self
decreases-loop-self l = l.self.trail.vars - l.self.visited

use Rattle.std.proofs.Common.{◌≡◌, ◌≤◌, true, length}
use Rattle.pp_clause.specs.Literal.{opposite}
use Rattle.pp_clause.specs.Clause.{has}
use Rattle.pp_trail.specs.Trail.{lits}
use Rattle.pp_watch.specs.Lists.{watchers_of}
use Rattle.pp_watch.specs.Looking.{AreLookedAt, Advances}
use Rattle.pp_watch.proofs.state.State.visit.Given as goal

abbrev pub invariant-loop-place : goal.invariant-loop-place
invariant-loop-place l = record {
  advances : Advances l.initial.self l.self;
  looked : AreLookedAt l.self l.lit l.place;
  within : l.place ≤ length (watchers_of l.self.lists l.lit);
  negated : has (lits l.self.trail.steps) (opposite l.lit) ≡ true;
}

abbrev pub decreases-loop-place : goal.decreases-loop-place
decreases-loop-place l = l.place

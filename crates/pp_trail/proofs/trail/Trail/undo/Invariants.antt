use Rattle.std.proofs.Common.{◌≡◌, ◌≤◌, length, take}
use Rattle.pp_trail.proofs.trail.Trail.undo.Given as goal

abbrev pub invariant-loop-self : goal.invariant-loop-self
invariant-loop-self l = record {
  at_least : l.len ≤ length l.self.steps;
  cut : l.self ≡ record l.initial.self
      { steps = take (length l.self.steps) l.initial.self.steps };
}

abbrev pub decreases-loop-self : goal.decreases-loop-self
decreases-loop-self l = length l.self.steps

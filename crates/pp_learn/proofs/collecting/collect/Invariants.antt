use Rattle.std.proofs.Common.{take}
use Rattle.pp_trail.specs.Trail.{lits}
use Rattle.pp_learn.proofs.MetSeen.{Gathers}
use Rattle.pp_learn.proofs.collecting.collect.Given as goal

abbrev pub invariant-loop-var : goal.invariant-loop-var
invariant-loop-var l = Gathers l.seen (lits l.trail) (take l.var-index l.met) l.found.items

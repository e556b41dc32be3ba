use Rattle.std.proofs.Common.{take}
use Rattle.pp_clause.specs.New.{OthersNegated}
use Rattle.pp_trail.specs.Trail.{lits}
use Rattle.pp_watch.proofs.finding.first_other.Given as goal

abbrev pub invariant-loop-place : goal.invariant-loop-place
invariant-loop-place l = OthersNegated (lits l.trail.steps) (take l.place l.part) l.fn.lit

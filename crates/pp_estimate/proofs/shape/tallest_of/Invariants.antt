use Rattle.std.proofs.Common.{◌≡◌, max, drop}
use Rattle.pp_estimate.specs.Visits.{tallest}
use Rattle.pp_estimate.proofs.shape.tallest_of.Given as goal

abbrev pub invariant-loop-s : goal.invariant-loop-s
invariant-loop-s l = tallest l.shapes ≡ max l.most (tallest (drop l.s-index l.shapes))

use Rattle.std.proofs.Common.{◌≡◌}
use Rattle.pp_estimate.specs.Bounds.{row}
use Rattle.pp_estimate.proofs.sizes.lowest.Given as goal

abbrev pub invariant-loop-d : goal.invariant-loop-d
invariant-loop-d l = l.row ≡ row l.types 0 l.d

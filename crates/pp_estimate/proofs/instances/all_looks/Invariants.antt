use Rattle.std.proofs.Common.{◌≡◌}
use Rattle.pp_estimate.specs.Estimates.{sum_below}
use Rattle.pp_estimate.specs.Counted.{number_at}
use Rattle.pp_estimate.specs.Cut.{cut}
use Rattle.pp_estimate.proofs.instances.all_looks.Given as goal

abbrev pub invariant-loop-d : goal.invariant-loop-d
invariant-loop-d l = l.total ≡ cut (sum_below l.d (number_at l.looks))

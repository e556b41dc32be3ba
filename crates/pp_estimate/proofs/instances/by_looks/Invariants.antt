use Rattle.std.proofs.Common.{◌≡◌, ◌+◌, ◌*◌, ℕ}
use Rattle.pp_estimate.specs.Estimates.{flat_of, sum_below}
use Rattle.pp_estimate.specs.Counted.{number_at}
use Rattle.pp_estimate.specs.Cut.{cut}
use Rattle.pp_estimate.proofs.instances.by_looks.Given as goal

abbrev pub invariant-loop-d : goal.invariant-loop-d
invariant-loop-d l = l.total ≡ cut (sum_below l.d (λ (d : ℕ). number_at l.looks d * (256 + 8 * flat_of l.types d)))

use Rattle.std.proofs.Common.{◌≡◌, ◌+◌, ◌*◌, ℕ}
use Rattle.pp_estimate.specs.Estimates.{flat_of, pairs, sum_below}
use Rattle.pp_estimate.specs.Counted.{number_at}
use Rattle.pp_estimate.specs.Cut.{cut}
use Rattle.pp_estimate.proofs.instances.by_pairs.Given as goal

abbrev pub invariant-loop-d : goal.invariant-loop-d
invariant-loop-d l = l.total ≡ cut (sum_below l.d
    (λ (d : ℕ). pairs (number_at l.looks d) * (64 + 4 * flat_of l.types d)))

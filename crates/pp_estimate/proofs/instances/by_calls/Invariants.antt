use Rattle.std.proofs.Common.{◌≡◌, ◌+◌, ◌*◌, ℕ, slice_get}
use Rattle.pp_estimate.specs.Estimates.{pairs, sum_below, widths_at}
use Rattle.pp_estimate.specs.Counted.{number_at}
use Rattle.pp_estimate.specs.Cut.{cut}
use Rattle.pp_estimate.proofs.instances.by_calls.Given as goal

abbrev pub invariant-loop-g : goal.invariant-loop-g
invariant-loop-g l = l.total ≡ cut (sum_below l.g
    (λ (g : ℕ). pairs (number_at l.calls g) * (64 + 4 * widths_at (slice_get l.functions g))))

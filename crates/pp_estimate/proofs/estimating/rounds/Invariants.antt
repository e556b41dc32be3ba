use Rattle.std.proofs.Common.{◌≡◌, ℕ}
use Rattle.pp_estimate.specs.Counted.{MemoOf}
use Rattle.pp_estimate.specs.Cut.{cut}
use Rattle.pp_estimate.specs.Estimates.{single, sum_below}
use Rattle.pp_estimate.proofs.estimating.rounds.Given as goal

abbrev pub invariant-loop-round : goal.invariant-loop-round
invariant-loop-round l =
    record {
      total : l.total ≡ cut (sum_below l.round (λ (r : ℕ). single l.types l.functions l.f r l.depth));
      sound : MemoOf l.types l.functions l.memo;
    }

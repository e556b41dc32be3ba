use Rattle.std.proofs.Common.{◌+◌, ◌*◌, ℕ}
use Rattle.pp_estimate.specs.Counted.{number_at}
use Rattle.pp_estimate.specs.Estimates.{flat_of}
use Rattle.pp_estimate.proofs.Totals.{sum_more, weighed}
use Rattle.pp_estimate.proofs.instances.by_looks.Goals as goal

pub loop-d-preserved : goal.loop-d-preserved
loop-d-preserved c =
    let n = number_at c.args.looks.now c.loop-d.d in
    let k = flat_of c.args.types.now c.loop-d.d in
    sum_more (λ (d : ℕ). number_at c.args.looks.now d * (256 + 8 * flat_of c.args.types.now d)) c.loop-d.d
    c.loop-d.total c.saturating_mul-in-loop-d.result c.saturating_add-total.result c.loop-d.invariant
    (weighed n k 8 256 c.flat_of.result c.saturating_mul.result c.saturating_add-weight.result c.count_at.result
    c.saturating_mul-in-loop-d.result c.flat_of.ensures c.saturating_mul.ensures c.saturating_add-weight.ensures
    c.count_at.ensures c.saturating_mul-in-loop-d.ensures) c.saturating_add-total.ensures

use Rattle.std.proofs.Common.{◌∙◌, ◌+◌, ◌*◌, ℕ, List, length, slice_get, ap}
use Rattle.pp_estimate.specs.Counted.{number_at}
use Rattle.pp_estimate.specs.Cut.{cut}
use Rattle.pp_estimate.specs.Estimates.{flat_of, pairs, sum_below, widths_at}
use Rattle.pp_estimate.proofs.Totals.{instances_are}
use Rattle.pp_estimate.proofs.instances.instances_of.Goals as goal

pub returns : goal.returns
returns c = λ es is.
    instances_are c.args.types.now c.args.functions.now es c.args.counts.now c.by_looks.result c.by_pairs.result
    c.by_calls.result c.all_looks-looks.result c.saturating_mul.result c.saturating_mul-2.result
    c.saturating_add-3.result is
    (c.by_looks.ensures ∙ ap (λ (x : List ℕ). cut
    (sum_below (length c.args.types.now.datatypes)
    (λ (d : ℕ). number_at x d * (256 + 8 * flat_of c.args.types.now d)))) c.as_slice-2.ensures)
    (c.by_pairs.ensures ∙ ap (λ (x : List ℕ). cut
    (sum_below (length c.args.types.now.datatypes)
    (λ (d : ℕ). pairs (number_at x d) * (64 + 4 * flat_of c.args.types.now d)))) c.as_slice-3.ensures)
    (c.by_calls.ensures ∙ ap (λ (x : List ℕ). cut
    (sum_below (length c.args.functions.now)
    (λ (g : ℕ). pairs (number_at x g) * (64 + 4 * widths_at (slice_get c.args.functions.now g)))))
    c.as_slice-4.ensures)
    (c.all_looks-looks.ensures ∙ ap (λ (x : List ℕ). cut (sum_below (length c.args.types.now.datatypes) (number_at x)))
    c.as_slice.ensures)
    c.saturating_mul.ensures c.saturating_mul-2.ensures
    (c.saturating_add-3.ensures ∙ ap (λ (n : ℕ). cut (n + c.saturating_mul-2.result))
    (c.saturating_add-2.ensures ∙ ap (λ (n : ℕ). cut (n + c.by_calls.result)) c.saturating_add.ensures))

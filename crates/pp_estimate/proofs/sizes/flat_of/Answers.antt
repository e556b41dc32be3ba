use Rattle.std.proofs.Common.{◌∙◌, List, length, map, ap}
use Rattle.std.specs.Prelude.{sum}
use Rattle.pp_prog.specs.declared.sort.Sort.{Sort}
use Rattle.pp_prog.specs.Sizes.{width}
use Rattle.pp_estimate.specs.Cut.{cut}
use Rattle.pp_estimate.proofs.Sums.{flat_more}
use Rattle.pp_estimate.proofs.sizes.flat_of.Goals as goal

pub loop-c-preserved : goal.loop-c-preserved
loop-c-preserved c =
    flat_more (length c.ctors_of-ctors.result.now) c.ctors_of-ctors.result.now c.loop-c.c-index c.c-item.result
    c.loop-c.total c.widths_of.result c.saturating_add-total.result c.loop-c-test.true c.c-item.is
    c.loop-c.invariant (c.widths_of.ensures ∙ ap (λ (l : List Sort). cut (sum (map width l))) c.as_slice.ensures)
    c.saturating_add-total.ensures

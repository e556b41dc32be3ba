use Rattle.std.proofs.Common.{◌∙◌, List, ap}
use Rattle.pp_prog.specs.declared.sort.Sort.{Sort}
use Rattle.pp_estimate.specs.Bounds.{sizes}
use Rattle.pp_estimate.proofs.Sums.{size_more}
use Rattle.pp_estimate.proofs.sizes.size_of_fields.Goals as goal

pub loop-c-preserved : goal.loop-c-preserved
loop-c-preserved c =
    size_more c.args.types.now c.args.height c.args.ctors.now c.loop-c.c-index c.c-item.result c.loop-c.total
    c.size_of_all.result c.add-total.result c.loop-c-test.true c.c-item.is c.loop-c.invariant
    (c.size_of_all.ensures ∙ ap (λ (l : List Sort). sizes c.args.types.now c.args.height l) c.as_slice.ensures)
    c.add-total.ensures

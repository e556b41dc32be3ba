use Rattle.pp_estimate.proofs.Sums.{size_tree}
use Rattle.pp_estimate.proofs.sizes.higher_size.Goals as goal

pub returns : goal.returns
returns c =
    size_tree c.args.types.now c.args.height c.args.d c.ctors_of-ctors.result.now c.size_of_fields.result c.add.result
    c.ctors_of-ctors.ensures c.size_of_fields.ensures c.add.ensures

use Rattle.std.proofs.Common.{arith}
use Rattle.pp_bounded_samples.proofs.Keeping.{below_few, goes, one_data}
use Rattle.pp_bounded_samples.proofs.trees.below.Goals as goal

pub below-requires-clause-room : goal.below-requires-clause-room
below-requires-clause-room c =
    let few = below_few c.args.table.now c.args.domain.now c.args.circuit.now c.args.pair.now c.requires in
    let most = c.in_ok-room.ensures in omega arith

pub below-requires-clause-trees : goal.below-requires-clause-trees
below-requires-clause-trees c = one_data _ _ _ _ c.requires

pub returns : goal.returns
returns c = goes _ _ _ _ _ _ c.below.ensures.moves

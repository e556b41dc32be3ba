use Rattle.std.proofs.Common.{arith}
use Rattle.pp_bounded_samples.proofs.Keeping.{equal_few, goes, one_data}
use Rattle.pp_bounded_samples.proofs.trees.equal.Goals as goal

pub equal-requires-clause-room : goal.equal-requires-clause-room
equal-requires-clause-room c =
    let few = equal_few c.args.table.now c.args.domain.now c.args.circuit.now c.args.pair.now c.requires in
    let most = c.in_ok-room.ensures in omega arith

pub equal-requires-clause-trees : goal.equal-requires-clause-trees
equal-requires-clause-trees c = one_data _ _ _ _ c.requires

pub returns : goal.returns
returns c = goes _ _ _ _ _ _ c.equal.ensures.moves

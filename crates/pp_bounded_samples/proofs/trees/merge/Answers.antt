use Rattle.std.proofs.Common.{arith}
use Rattle.pp_bounded_samples.proofs.Keeping.{goes, merge_few, merge_kept, one_data}
use Rattle.pp_bounded_samples.proofs.trees.merge.Goals as goal

pub merge-requires-clause-room : goal.merge-requires-clause-room
merge-requires-clause-room c =
    let few = merge_few c.args.table.now c.args.domain.now c.args.circuit.now c.args.pair.now c.requires.pair in
    let most = c.in_ok-room.ensures in omega arith

pub merge-requires-clause-trees : goal.merge-requires-clause-trees
merge-requires-clause-trees c = one_data _ _ _ _ c.requires.pair

pub returns-clause-goes : goal.returns-clause-goes
returns-clause-goes c = goes _ _ _ _ _ _ c.merge.ensures.moves

pub returns-clause-kept : goal.returns-clause-kept
returns-clause-kept c = merge_kept _ _ _ _ _ _ _ _ _ c.merge.ensures.moves c.requires.pair c.in_ok-tree.ensures.answer

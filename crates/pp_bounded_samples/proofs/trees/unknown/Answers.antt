use Rattle.std.proofs.Common.{arith}
use Rattle.pp_bounded_samples.proofs.Keeping.{goes, unknown_few, unknown_kept}
use Rattle.pp_bounded_samples.proofs.Sizes.{low_small}
use Rattle.pp_bounded_samples.proofs.trees.unknown.Goals as goal

pub unknown-requires-clause-room : goal.unknown-requires-clause-room
unknown-requires-clause-room c =
    let few = unknown_few c.args.table.now c.args.of c.args.height
    (low_small c.args.table.now c.requires.sample c.args.of c.args.height c.requires.low) in
    let most = c.in_ok-room.ensures in omega arith

pub returns-clause-goes : goal.returns-clause-goes
returns-clause-goes c = goes _ _ _ _ _ _ c.unknown.ensures.moves

pub returns-clause-kept : goal.returns-clause-kept
returns-clause-kept c =
    unknown_kept _ _ _ _ _ _ _ _ c.requires.low.some
    (low_small c.args.table.now c.requires.sample c.args.of c.args.height c.requires.low)
    c.in_ok-tree.ensures.answer

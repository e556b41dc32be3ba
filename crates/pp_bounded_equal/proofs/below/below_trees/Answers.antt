use Rattle.std.proofs.Common.{arith}
use Rattle.pp_domain.proofs.AnySort.{Moves_gates}
use Rattle.pp_domain.proofs.Composition.{Moves_weaker}
use Rattle.pp_bounded_trees.specs.Meaning.{bounded_sense}
use Rattle.pp_bounded_equal.proofs.BelowAnswer.{below_within, test_comparison}
use Rattle.pp_bounded_trees.proofs.Lawful.{bounded_lawful}
use Rattle.pp_bounded_equal.proofs.below.below_trees.Goals as goal

pub below_tree-requires-clause-room : goal.below_tree-requires-clause-room
below_tree-requires-clause-room c =
    let within = below_within c.args.table.now c.args.trees.now c.args.new.now c.args.old.now c.requires.trees.same in
    (let room = c.requires.room in omega arith)

pub returns-in_err-below-clause-moves : goal.returns-in_err-below-clause-moves
returns-in_err-below-clause-moves c =
    Moves_weaker _ _ _ _ _ _ _ _ (Moves_gates bounded_sense c.args.table.now bounded_lawful c.args.trees.now
    c.args.circuit.now _ _ c.requires.fits c.in_err-below.ensures.adds)
    (below_within c.args.table.now c.args.trees.now c.args.new.now c.args.old.now c.requires.trees.same)

pub returns-clause-moves : goal.returns-clause-moves
returns-clause-moves c =
    Moves_weaker _ _ _ _ _ _ _ _ (Moves_gates bounded_sense c.args.table.now bounded_lawful c.args.trees.now
    c.args.circuit.now _ _ c.requires.fits c.in_ok-below.ensures.adds)
    (below_within c.args.table.now c.args.trees.now c.args.new.now c.args.old.now c.requires.trees.same)

pub returns-clause-answer : goal.returns-clause-answer
returns-clause-answer c =
    test_comparison c.args.table.now c.args.trees.now c.args.circuit.now c.below_tree.new.circuit _ c.args.new.now
    c.args.old.now c.in_ok-below.below c.requires.fits c.in_ok-below.ensures.adds c.in_ok-below.ensures.test

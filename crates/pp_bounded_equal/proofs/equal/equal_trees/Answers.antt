use Rattle.std.proofs.Common.{arith}
use Rattle.pp_domain.proofs.AnySort.{Moves_gates}
use Rattle.pp_domain.proofs.Composition.{Moves_weaker}
use Rattle.pp_bounded_trees.specs.Meaning.{bounded_sense}
use Rattle.pp_bounded_equal.proofs.EqualAnswer.{test_equality}
use Rattle.pp_bounded_trees.proofs.Lawful.{bounded_lawful}
use Rattle.pp_bounded_equal.proofs.equal.equal_trees.Goals as goal

pub returns-in_err-same-clause-moves : goal.returns-in_err-same-clause-moves
returns-in_err-same-clause-moves c =
    Moves_weaker _ _ _ _ _ _ _ _ (Moves_gates bounded_sense c.args.table.now bounded_lawful c.args.trees.now
    c.args.circuit.now _ _ c.requires.fits c.in_err-same.ensures.adds) (omega arith)

pub returns-clause-moves : goal.returns-clause-moves
returns-clause-moves c =
    Moves_weaker _ _ _ _ _ _ _ _ (Moves_gates bounded_sense c.args.table.now bounded_lawful c.args.trees.now
    c.args.circuit.now _ _ c.requires.fits c.in_ok-same.ensures.adds) (omega arith)

pub returns-clause-answer : goal.returns-clause-answer
returns-clause-answer c =
    test_equality c.args.table.now c.args.trees.now c.args.circuit.now c.equal_tree.new.circuit _ c.args.left.now
    c.args.right.now c.in_ok-same.same c.requires.fits c.in_ok-same.ensures.adds c.in_ok-same.ensures.test

use Rattle.pp_bounded_merge.proofs.MergeAnswer.{chosen_merge}
use Rattle.pp_bounded_merge.proofs.merge.merge_trees.Goals as goal

pub returns-clause-answer : goal.returns-clause-answer
returns-clause-answer c =
    chosen_merge c.args.table.now c.args.trees.now c.choose_tree.new.trees c.args.circuit.now
    c.choose_tree.new.circuit _
    c.args.choice c.args.left.now c.args.right.now c.in_ok-tree.tree c.requires.fits c.in_ok-tree.ensures.adds
    c.in_ok-tree.ensures.chosen

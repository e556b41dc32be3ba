use Rattle.pp_bounded_cases.proofs.Held.{held_push, of_one_data, read_literal, tree_held}
use Rattle.pp_bounded_cases.proofs.calls.add_merge.Goals as goal

pub merge-requires-clause-choice : goal.merge-requires-clause-choice
merge-requires-clause-choice c =
    read_literal c.args.table.now c.args.trees.now c.args.circuit.now c.args.symbols.now _ c.requires.held
    c.as_slice.ensures c.in_ok-choice.choice c.in_ok-choice.ensures

pub merge-requires-clause-trees : goal.merge-requires-clause-trees
merge-requires-clause-trees c =
    of_one_data c.args.table.now c.args.trees.now c.args.circuit.now c.args.symbols.now _ _ c.in_ok-left.left
    c.in_ok-right.right c.requires.held c.as_slice-2.ensures c.as_slice-3.ensures c.in_ok-left.ensures
    c.in_ok-right.ensures c.if-left-right.false

pub returns : goal.returns
returns c =
    let answer = c.in_ok-tree.ensures.answer in
    held_push c.args.table.now c.args.trees.now c.merge.new.self c.args.circuit.now c.merge.new.circuit _
    c.args.symbols.now c.push.new.self _ c.requires.held c.in_ok-tree.ensures.moves
    (tree_held c.merge.new.self c.merge.new.circuit c.in_ok-tree.tree answer.node) c.in_ok-push.ensures.ok

use Rattle.pp_bounded_cases.proofs.Held.{held_push, tree_held}
use Rattle.pp_bounded_cases.proofs.calls.add_unknown.Goals as goal

pub returns : goal.returns
returns c =
    held_push c.args.table.now c.args.trees.now c.unknown.new.self c.args.circuit.now c.unknown.new.circuit _
    c.args.symbols.now c.push.new.self _ c.requires.held c.in_ok-tree.ensures.moves
    (tree_held c.unknown.new.self c.unknown.new.circuit c.in_ok-tree.tree c.in_ok-tree.ensures.answer.node)
    c.in_ok-push.ensures.ok

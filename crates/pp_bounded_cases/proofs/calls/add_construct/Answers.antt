use Rattle.pp_bounded_cases.proofs.Held.{held_push, tree_held}
use Rattle.pp_bounded_cases.proofs.Rooms.{construct_room}
use Rattle.pp_bounded_cases.proofs.calls.add_construct.Goals as goal

pub construct-requires-clause-room : goal.construct-requires-clause-room
construct-requires-clause-room c =
    construct_room c.args.table.now c.requires.sample c.args.trees.now c.args.circuit.now _ c.requires.room

pub returns : goal.returns
returns c =
    held_push c.args.table.now c.args.trees.now c.construct.new.trees c.args.circuit.now c.construct.new.circuit _
    c.args.symbols.now c.push.new.self _ c.requires.held c.in_ok-tree.ensures.moves
    (tree_held c.construct.new.trees c.construct.new.circuit c.in_ok-tree.tree c.in_ok-tree.ensures.answer.node)
    c.in_ok-push.ensures.ok

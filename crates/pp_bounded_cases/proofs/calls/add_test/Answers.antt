use Rattle.pp_bounded_cases.proofs.Held.{held_push, literal_held, read_tree}
use Rattle.pp_bounded_cases.proofs.Rooms.{look_room}
use Rattle.pp_bounded_cases.proofs.calls.add_test.Goals as goal

pub is_ctor-requires-clause-tree : goal.is_ctor-requires-clause-tree
is_ctor-requires-clause-tree c =
    read_tree c.args.table.now c.args.trees.now c.args.circuit.now c.args.symbols.now _ c.requires.held
    c.as_slice.ensures c.in_ok-tree.tree c.in_ok-tree.ensures

pub is_ctor-requires-clause-room : goal.is_ctor-requires-clause-room
is_ctor-requires-clause-room c = λ new.
    look_room c.args.table.now c.requires.sample c.args.trees.now c.args.circuit.now c.in_ok-tree.tree c.requires.room

pub returns : goal.returns
returns c =
    held_push c.args.table.now c.args.trees.now c.is_ctor.new.trees c.args.circuit.now c.is_ctor.new.circuit _
    c.args.symbols.now c.push.new.self _ c.requires.held c.in_ok-has.ensures.moves
    (literal_held c.is_ctor.new.trees c.is_ctor.new.circuit c.in_ok-has.has c.in_ok-has.ensures.answer.of)
    c.in_ok-push.ensures.ok

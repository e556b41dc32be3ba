use Rattle.pp_gate.proofs.Places.{at_some}
use Rattle.pp_bounded_cases.proofs.Held.{held_push, read_tree}
use Rattle.pp_bounded_cases.proofs.Rooms.{look_room}
use Rattle.pp_bounded_cases.proofs.calls.add_field.Goals as goal

pub field-requires-clause-tree : goal.field-requires-clause-tree
field-requires-clause-tree c =
    read_tree c.args.table.now c.args.trees.now c.args.circuit.now c.args.symbols.now _ c.requires.held
    c.as_slice.ensures c.in_ok-tree.tree c.in_ok-tree.ensures

pub field-requires-clause-place : goal.field-requires-clause-place
field-requires-clause-place c =
    let k = c.in_ok-ctor.ensures in
    let s = at_some k.0.fields c.in_ok-place.place (c.in_ok-place.ensures k.0 k.1) in (s.0, (k.0, k.1, s.1))

pub field-requires-clause-room : goal.field-requires-clause-room
field-requires-clause-room c = λ new.
    look_room c.args.table.now c.requires.sample c.args.trees.now c.args.circuit.now c.in_ok-tree.tree c.requires.room

pub returns : goal.returns
returns c =
    let k = c.in_ok-ctor.ensures in
    let s = at_some k.0.fields c.in_ok-place.place (c.in_ok-place.ensures k.0 k.1) in
    held_push c.args.table.now c.args.trees.now c.field.new.trees c.args.circuit.now c.field.new.circuit _
    c.args.symbols.now c.push.new.self _ c.requires.held c.in_ok-part.ensures.moves
    (record { sort = s.0; is = (c.in_ok-part.ensures.answer s.0 (k.0, k.1, s.1)).of }) c.in_ok-push.ensures.ok

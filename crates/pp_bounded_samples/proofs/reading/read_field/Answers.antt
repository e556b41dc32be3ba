use Rattle.std.proofs.Common.{arith}
use Rattle.pp_bounded_samples.proofs.FieldReading.{field_readable, field_sort, looked}
use Rattle.pp_bounded_samples.proofs.Going.{looked_more}
use Rattle.pp_bounded_samples.proofs.reading.read_field.Goals as goal

pub is_ctor-requires-clause-room : goal.is_ctor-requires-clause-room
is_ctor-requires-clause-room c = let most = c.in_ok-room.ensures in omega arith

pub field-requires-clause-tree : goal.field-requires-clause-tree
field-requires-clause-tree c = (c.is_ctor.ensures.moves.nodes _ c.requires.read.kept.node).node

pub field-requires-clause-room : goal.field-requires-clause-room
field-requires-clause-room c = let most = c.in_ok-room-2.ensures in omega arith

pub field-requires-clause-place : goal.field-requires-clause-place
field-requires-clause-place c =
    field_sort c.args.table.now c.args.ctor c.args.tree.now.of c.args.place c.requires.ctor c.requires.place

pub read_where-requires : goal.read_where-requires
read_where-requires c = λ ok holds.
    let test = c.in_ok-has_ctor.ensures.answer in
    let own =
    field_sort c.args.table.now c.args.ctor c.args.tree.now.of c.args.place c.requires.ctor c.requires.place in
    let look = looked _ _ _ _ _ _ _ _ c.is_ctor.ensures.moves test.looks in
    let answer = c.in_ok-symbol.ensures.answer own.0 own.1 in
    let can = (looked _ _ _ _ _ _ _ _ c.field.ensures.moves answer.looks).reads _ _ (look.reads _ _ c.requires.read) in
    field_readable _ _ _ _ _ _ _ _ _ _ _ _ _ _ _ c.field.ensures.moves (look.reads _ _ c.requires.read).kept can.gives
    ok test holds own.1 answer

pub returns : goal.returns
returns c =
    let test = c.in_ok-has_ctor.ensures.answer in
    let own =
    field_sort c.args.table.now c.args.ctor c.args.tree.now.of c.args.place c.requires.ctor c.requires.place in
    let answer = c.in_ok-symbol.ensures.answer own.0 own.1 in
    looked_more _ _ _ _ _ _ _ (looked _ _ _ _ _ _ _ _ c.is_ctor.ensures.moves test.looks)
    (looked _ _ _ _ _ _ _ _ c.field.ensures.moves answer.looks)

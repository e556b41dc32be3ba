use Rattle.pp_named_expand.proofs.Looks.{enter_room, entry_fits, entry_levels, look_again, look_first, look_moves}
use Rattle.pp_named_expand.proofs.Looks.{look_none, prepare_moves, prepare_room, unseen}
use Rattle.pp_named_expand.proofs.look.expand.Goals as goal

pub returns-then-place_of-len-clause-moves : goal.returns-then-place_of-len-clause-moves
returns-then-place_of-len-clause-moves c =
    look_none c.args.table.now c.args.trees.now c.args.circuit.now c.args.tree.now c.requires.fits _

pub returns-then-place_of-len-clause-look : goal.returns-then-place_of-len-clause-look
returns-then-place_of-len-clause-look c =
    look_again c.args.table.now c.args.trees.now c.args.circuit.now c.args.tree.now c.requires.fits _ _ _
    c.as_slice.ensures c.place_of.ensures c.len.ensures c.if-place_of-len.true

pub prepare-requires-clause-room : goal.prepare-requires-clause-room
prepare-requires-clause-room c =
    prepare_room c.args.table.now c.args.trees.now c.args.circuit.now c.args.tree.now c.requires.fits _
    (c.requires.room
    (unseen c.args.table.now c.args.trees.now c.args.circuit.now c.args.tree.now c.requires.fits _ _ _
    c.as_slice.ensures c.place_of.ensures c.len.ensures c.if-place_of-len.false))

pub returns-in_err-alternatives-clause-moves : goal.returns-in_err-alternatives-clause-moves
returns-in_err-alternatives-clause-moves c =
    prepare_moves c.args.table.now c.args.trees.now c.args.circuit.now c.args.tree.now c.requires.fits
    c.prepare.new.trees c.prepare.new.circuit c.in_err-alternatives.ensures.moves

pub enter-requires-clause-own : goal.enter-requires-clause-own
enter-requires-clause-own c =
    let new = c.in_ok-alternatives.ensures in
    entry_fits c.args.table.now c.args.trees.now c.args.circuit.now c.args.tree.now c.requires.fits c.prepare.new.trees
    c.prepare.new.circuit _ c.requires.ctors new.moves new.prepared c.requires.tree

pub enter-requires-clause-levels : goal.enter-requires-clause-levels
enter-requires-clause-levels c =
    let new = c.in_ok-alternatives.ensures in
    entry_levels c.args.table.now c.args.trees.now c.args.circuit.now c.args.tree.now c.requires.fits
    c.prepare.new.trees c.prepare.new.circuit _ c.requires.ctors new.moves new.prepared c.requires.tree

pub enter-requires-clause-room : goal.enter-requires-clause-room
enter-requires-clause-room c =
    let new = c.in_ok-alternatives.ensures in
    enter_room c.args.table.now c.args.trees.now c.args.circuit.now c.args.tree.now c.requires.fits c.prepare.new.trees
    c.prepare.new.circuit _ c.requires.ctors new.moves new.prepared c.requires.tree _ (c.requires.room
    (unseen c.args.table.now c.args.trees.now c.args.circuit.now c.args.tree.now c.requires.fits _ _ _
    c.as_slice.ensures c.place_of.ensures c.len.ensures c.if-place_of-len.false))

pub returns-in_err-enter-clause-moves : goal.returns-in_err-enter-clause-moves
returns-in_err-enter-clause-moves c =
    let new = c.in_ok-alternatives.ensures in
    look_moves c.args.table.now c.args.trees.now c.args.circuit.now c.args.tree.now c.requires.fits c.prepare.new.trees
    c.prepare.new.circuit _ c.requires.ctors new.moves new.prepared c.requires.tree c.enter.new.trees
    c.enter.new.circuit c.in_err-enter.ensures.moves

pub returns-clause-moves : goal.returns-clause-moves
returns-clause-moves c =
    let new = c.in_ok-alternatives.ensures in
    look_moves c.args.table.now c.args.trees.now c.args.circuit.now c.args.tree.now c.requires.fits c.prepare.new.trees
    c.prepare.new.circuit _ c.requires.ctors new.moves new.prepared c.requires.tree c.enter.new.trees
    c.enter.new.circuit c.in_ok-enter.ensures.moves

pub returns-clause-look : goal.returns-clause-look
returns-clause-look c =
    let new = c.in_ok-alternatives.ensures in
    look_first c.args.table.now c.args.trees.now c.args.circuit.now c.args.tree.now c.requires.fits c.prepare.new.trees
    c.prepare.new.circuit _ c.requires.ctors new.moves new.prepared c.requires.tree c.enter.new.trees
    c.enter.new.circuit _ _ _ c.as_slice.ensures c.place_of.ensures c.len.ensures c.if-place_of-len.false
    c.in_ok-enter.ensures.entered

pub returns-in_err-alternatives-clause-still : goal.returns-in_err-alternatives-clause-still
returns-in_err-alternatives-clause-still c = λ x. absurd
    (unseen c.args.table.now c.args.trees.now c.args.circuit.now c.args.tree.now c.requires.fits _ _ _
    c.as_slice.ensures c.place_of.ensures c.len.ensures c.if-place_of-len.false x)

pub returns-in_err-enter-clause-still : goal.returns-in_err-enter-clause-still
returns-in_err-enter-clause-still c = λ x. absurd
    (unseen c.args.table.now c.args.trees.now c.args.circuit.now c.args.tree.now c.requires.fits _ _ _
    c.as_slice.ensures c.place_of.ensures c.len.ensures c.if-place_of-len.false x)

pub returns-clause-still : goal.returns-clause-still
returns-clause-still c = λ x. absurd
    (unseen c.args.table.now c.args.trees.now c.args.circuit.now c.args.tree.now c.requires.fits _ _ _
    c.as_slice.ensures c.place_of.ensures c.len.ensures c.if-place_of-len.false x)

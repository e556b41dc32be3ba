use Rattle.std.proofs.Common.{arith, ap, refl, ◌∙◌, map}
use Rattle.std.proofs.lemmas.Option.{slice_get_within}
use Rattle.pp_prog.specs.Values.{greatest}
use Rattle.pp_domain.proofs.Composition.{Moves_none, Moves_weaker}
use Rattle.pp_domain.specs.Symbols.{symbol_height}
use Rattle.pp_named_trees.specs.Meaning.{named_sense}
use Rattle.pp_named_trees.proofs.Lawful.{named_lawful}
use Rattle.pp_named_expand.proofs.Constructs.{answer_read, enter_room_read, fields_read, fits_read, known_moves_read}
use Rattle.pp_named_expand.proofs.Constructs.{known_room_read, levels_read, moves_read}
use Rattle.pp_named_expand.proofs.ReadTrees.{has_ctors}
use Rattle.pp_named_expand.proofs.new.construct.Goals as goal

pub returns-then-highest-clause-moves : goal.returns-then-highest-clause-moves
returns-then-highest-clause-moves c =
    Moves_weaker _ _ _ _ _ _ 0 _
    (Moves_none named_sense c.args.table.now named_lawful c.args.trees.now c.args.circuit.now c.requires.fits)
    (omega arith)

pub ctor-requires : goal.ctor-requires
ctor-requires c =
    slice_get_within c.args.table.now.ctors c.args.ctor.0 c.requires.fields.0 c.requires.fields.1

pub known_new-requires-clause-of : goal.known_new-requires-clause-of
known_new-requires-clause-of c =
    (has_ctors c.args.table.now c.args.ctor c.ctor.result.now.of (c.ctor.result.now, c.ctor.ensures, refl)).within

pub known_new-requires-clause-fields : goal.known_new-requires-clause-fields
known_new-requires-clause-fields c =
    fields_read c.args.table.now c.args.trees.now c.args.circuit.now c.args.ctor c.args.fields.now c.ctor.result.now
    c.requires.fits c.ctor.ensures c.requires.fields

pub known_new-requires-clause-room : goal.known_new-requires-clause-room
known_new-requires-clause-room c =
    known_room_read c.args.table.now c.args.trees.now c.args.circuit.now c.args.ctor c.args.fields.now
    c.ctor.result.now c.requires.fits c.ctor.ensures c.requires.fields _ c.requires.room

pub returns-in_err-new-clause-moves : goal.returns-in_err-new-clause-moves
returns-in_err-new-clause-moves c =
    known_moves_read c.args.table.now c.args.trees.now c.args.circuit.now c.args.ctor c.args.fields.now
    c.ctor.result.now c.requires.fits c.ctor.ensures c.requires.fields c.known_new.new.trees c.known_new.new.circuit
    c.in_err-new.ensures.moves

pub enter-requires-clause-own : goal.enter-requires-clause-own
enter-requires-clause-own c =
    let new = c.in_ok-new.ensures in
    fits_read c.args.table.now c.args.trees.now c.args.circuit.now c.args.ctor c.args.fields.now c.ctor.result.now
    c.requires.fits c.ctor.ensures c.requires.fields c.known_new.new.trees c.known_new.new.circuit c.in_ok-new.new
    new.moves new.known

pub enter-requires-clause-levels : goal.enter-requires-clause-levels
enter-requires-clause-levels c =
    let new = c.in_ok-new.ensures in
    levels_read c.args.table.now c.args.trees.now c.args.circuit.now c.args.ctor c.args.fields.now c.ctor.result.now
    c.requires.fits c.ctor.ensures c.requires.fields c.known_new.new.trees c.known_new.new.circuit c.in_ok-new.new
    new.moves new.known

pub enter-requires-clause-room : goal.enter-requires-clause-room
enter-requires-clause-room c =
    let new = c.in_ok-new.ensures in
    enter_room_read c.args.table.now c.args.trees.now c.args.circuit.now c.args.ctor c.args.fields.now
    c.ctor.result.now c.requires.fits c.ctor.ensures c.requires.fields c.known_new.new.trees c.known_new.new.circuit
    c.in_ok-new.new new.moves new.known _ c.requires.room

pub returns-in_err-enter-clause-moves : goal.returns-in_err-enter-clause-moves
returns-in_err-enter-clause-moves c =
    let new = c.in_ok-new.ensures in
    moves_read c.args.table.now c.args.trees.now c.args.circuit.now c.args.ctor c.args.fields.now c.ctor.result.now
    c.requires.fits c.ctor.ensures c.requires.fields c.known_new.new.trees c.known_new.new.circuit c.in_ok-new.new
    new.moves new.known c.enter.new.trees c.enter.new.circuit c.in_err-enter.ensures.moves

pub returns-clause-moves : goal.returns-clause-moves
returns-clause-moves c =
    let new = c.in_ok-new.ensures in
    moves_read c.args.table.now c.args.trees.now c.args.circuit.now c.args.ctor c.args.fields.now c.ctor.result.now
    c.requires.fits c.ctor.ensures c.requires.fields c.known_new.new.trees c.known_new.new.circuit c.in_ok-new.new
    new.moves new.known c.enter.new.trees c.enter.new.circuit c.in_ok-enter.ensures.moves

pub returns-clause-answer : goal.returns-clause-answer
returns-clause-answer c =
    let new = c.in_ok-new.ensures in
    let high = c.highest-highest.ensures
    ∙ ap (λ xs. greatest (map (symbol_height named_sense c.args.trees.now) xs)) c.as_slice.ensures in
    answer_read c.args.table.now c.args.trees.now c.args.circuit.now c.args.ctor c.args.fields.now c.ctor.result.now
    c.requires.fits c.ctor.ensures c.requires.fields c.known_new.new.trees c.known_new.new.circuit c.in_ok-new.new
    new.moves new.known c.enter.new.trees c.enter.new.circuit _ _ c.in_ok-enter.ensures.moves
    c.in_ok-enter.ensures.entered (omega (arith, high)) refl

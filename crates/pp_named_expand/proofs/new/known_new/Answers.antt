use Rattle.std.proofs.Common.{arith}
use Rattle.pp_named_contents.proofs.Kept.{keeps_same}
use Rattle.pp_named_instances.specs.Levels.{levels_gates}
use Rattle.pp_named_expand.specs.Constructed.{known_gates}
use Rattle.pp_named_expand.proofs.Preparing.{fresh_moves, kept_moves}
use Rattle.pp_named_expand.proofs.Constructing.{fields_later, known_is, known_named, new_moves}
use Rattle.pp_named_expand.proofs.new.known_new.Goals as goal

pub returns-in_err-name-clause-moves : goal.returns-in_err-name-clause-moves
returns-in_err-name-clause-moves c =
    fresh_moves c.args.table.now c.args.trees.now c.touch.new.trees c.make_levels.new.trees c.args.circuit.now
    c.make_levels.new.circuit _ c.in_ok-touch.ensures.touched c.in_ok-make_levels.ensures.levels
    c.short_word.new.circuit 32
    c.in_err-name.ensures.grows c.in_err-name.ensures.circuit _ (omega arith)

pub known_contents-requires-clause-fields : goal.known_contents-requires-clause-fields
known_contents-requires-clause-fields c =
    let moves = fresh_moves c.args.table.now c.args.trees.now c.touch.new.trees c.make_levels.new.trees
    c.args.circuit.now c.make_levels.new.circuit (levels_gates c.args.table.now c.args.of) c.in_ok-touch.ensures.touched
    c.in_ok-make_levels.ensures.levels c.short_word.new.circuit 32 c.in_ok-name.ensures.grows
    c.in_ok-name.ensures.circuit (known_gates c.args.table.now c.args.of) (omega arith) in
    fields_later c.args.table.now c.args.circuit.now c.short_word.new.circuit _ c.args.ctor c.args.fields.now
    moves.grows
    c.requires.fields

pub returns-in_err-alternatives-clause-moves : goal.returns-in_err-alternatives-clause-moves
returns-in_err-alternatives-clause-moves c =
    fresh_moves c.args.table.now c.args.trees.now c.touch.new.trees c.make_levels.new.trees c.args.circuit.now
    c.make_levels.new.circuit _ c.in_ok-touch.ensures.touched c.in_ok-make_levels.ensures.levels
    c.short_word.new.circuit 32
    c.in_ok-name.ensures.grows c.in_ok-name.ensures.circuit _ (omega arith)

pub returns-in_err-keep-clause-moves : goal.returns-in_err-keep-clause-moves
returns-in_err-keep-clause-moves c =
    kept_moves c.args.table.now c.args.trees.now c.touch.new.trees c.make_levels.new.trees c.args.circuit.now
    c.make_levels.new.circuit _ c.in_ok-touch.ensures.touched c.in_ok-make_levels.ensures.levels
    c.short_word.new.circuit 32
    c.in_ok-name.ensures.grows c.in_ok-name.ensures.circuit c.keep.new.self
    (keeps_same c.short_word.new.circuit c.make_levels.new.trees c.keep.new.self c.in_err-keep.ensures.err) _
    (omega arith)

pub keep_all-requires : goal.keep_all-requires
keep_all-requires c =
    record {
      named = known_named c.args.table.now c.short_word.new.circuit c.args.of c.args.ctor c.args.fields.now _ _
          c.in_ok-alternatives.ensures.known c.as_slice.ensures;
    }

pub returns-in_err-keep_all-clause-moves : goal.returns-in_err-keep_all-clause-moves
returns-in_err-keep_all-clause-moves c =
    new_moves c.args.table.now c.args.trees.now c.touch.new.trees c.make_levels.new.trees c.args.circuit.now
    c.make_levels.new.circuit _ c.in_ok-touch.ensures.touched c.in_ok-make_levels.ensures.levels
    c.short_word.new.circuit
    c.in_ok-name.ensures.grows c.in_ok-name.ensures.circuit _ c.in_ok-name.ensures.short c.keep.new.self
    c.keep_all.new.trees c.args.of c.in_ok-keep.ensures.kept c.in_err-keep_all.ensures.keeps _ (omega arith)

pub returns-clause-moves : goal.returns-clause-moves
returns-clause-moves c =
    new_moves c.args.table.now c.args.trees.now c.touch.new.trees c.make_levels.new.trees c.args.circuit.now
    c.make_levels.new.circuit _ c.in_ok-touch.ensures.touched c.in_ok-make_levels.ensures.levels
    c.short_word.new.circuit
    c.in_ok-name.ensures.grows c.in_ok-name.ensures.circuit _ c.in_ok-name.ensures.short c.keep.new.self
    c.keep_all.new.trees c.args.of c.in_ok-keep.ensures.kept c.in_ok-keep_all.ensures.keeps _ (omega arith)

pub returns-clause-known : goal.returns-clause-known
returns-clause-known c =
    known_is c.args.table.now c.args.trees.now c.touch.new.trees c.make_levels.new.trees c.args.circuit.now
    c.make_levels.new.circuit _ c.in_ok-touch.ensures.touched c.in_ok-make_levels.ensures.levels
    c.short_word.new.circuit
    c.in_ok-name.ensures.grows c.in_ok-name.ensures.circuit _ c.in_ok-name.ensures.short c.keep.new.self
    c.keep_all.new.trees c.args.of c.in_ok-keep.ensures.kept c.in_ok-keep_all.ensures.keeps c.args.ctor
    c.args.fields.now _ _ c.in_ok-alternatives.ensures.known c.as_slice.ensures c.in_ok-keep_all.ensures.kept
    c.in_ok-touch.ensures.groups c.in_ok-make_levels.ensures.has

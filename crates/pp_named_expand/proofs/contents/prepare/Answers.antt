use Rattle.std.proofs.Common.{arith}
use Rattle.pp_named_expand.proofs.Preparing.{fresh_moves, kept_moves, named_read, prepared}
use Rattle.pp_named_expand.proofs.contents.prepare.Goals as goal

pub returns-in_err-alternatives-clause-moves : goal.returns-in_err-alternatives-clause-moves
returns-in_err-alternatives-clause-moves c =
    fresh_moves c.args.table.now c.args.trees.now c.touch.new.trees c.make_levels.new.trees c.args.circuit.now
    c.make_levels.new.circuit _ c.in_ok-touch.ensures.touched c.in_ok-make_levels.ensures.levels
    c.fresh_contents.new.circuit _ c.in_err-alternatives.ensures.grows c.in_err-alternatives.ensures.circuit _
    (omega arith)

pub keep_all-requires : goal.keep_all-requires
keep_all-requires c =
    record {
      named = named_read c.args.table.now c.make_levels.new.circuit c.fresh_contents.new.circuit _ c.args.of _ _
          c.in_ok-alternatives.ensures.fresh c.as_slice.ensures;
    }

pub returns-in_err-keep_all-clause-moves : goal.returns-in_err-keep_all-clause-moves
returns-in_err-keep_all-clause-moves c =
    kept_moves c.args.table.now c.args.trees.now c.touch.new.trees c.make_levels.new.trees c.args.circuit.now
    c.make_levels.new.circuit _ c.in_ok-touch.ensures.touched c.in_ok-make_levels.ensures.levels
    c.fresh_contents.new.circuit _ c.in_ok-alternatives.ensures.grows c.in_ok-alternatives.ensures.circuit
    c.keep_all.new.trees c.in_err-keep_all.ensures.keeps _ (omega arith)

pub returns-clause-moves : goal.returns-clause-moves
returns-clause-moves c =
    kept_moves c.args.table.now c.args.trees.now c.touch.new.trees c.make_levels.new.trees c.args.circuit.now
    c.make_levels.new.circuit _ c.in_ok-touch.ensures.touched c.in_ok-make_levels.ensures.levels
    c.fresh_contents.new.circuit _ c.in_ok-alternatives.ensures.grows c.in_ok-alternatives.ensures.circuit
    c.keep_all.new.trees c.in_ok-keep_all.ensures.keeps _ (omega arith)

pub returns-clause-prepared : goal.returns-clause-prepared
returns-clause-prepared c =
    prepared c.args.table.now c.args.trees.now c.touch.new.trees c.make_levels.new.trees c.args.circuit.now
    c.make_levels.new.circuit _ c.in_ok-touch.ensures.touched c.in_ok-make_levels.ensures.levels
    c.fresh_contents.new.circuit _ c.in_ok-alternatives.ensures.grows c.in_ok-alternatives.ensures.circuit
    c.keep_all.new.trees c.in_ok-keep_all.ensures.keeps c.args.of _ _ c.in_ok-alternatives.ensures.fresh
    c.as_slice.ensures c.in_ok-keep_all.ensures.kept c.in_ok-touch.ensures.groups c.in_ok-make_levels.ensures.has

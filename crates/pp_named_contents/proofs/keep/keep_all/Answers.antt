use Rattle.std.proofs.Common.{arith}
use Rattle.std.proofs.lemmas.Option.{slice_get_within, slice_get-get_or}
use Rattle.pp_named_contents.proofs.Kept.{fields_named_at, fields_turn, keeps_more}
use Rattle.pp_named_contents.proofs.keep.keep_all.Goals as goal

pub keep_symbols-requires : goal.keep_symbols-requires
keep_symbols-requires c =
    let at = slice_get-get_or c.args.alternatives.now c.loop-place.place c.index-alternatives-place.result
    c.loop-place-test.true in
    record {
      named = fields_named_at c.args.circuit.now c.args.alternatives.now c.loop-place.place _ _ at c.as_slice.ensures
          c.requires.named;
    }

pub returns-in_err-keep_symbols-clause-keeps : goal.returns-in_err-keep_symbols-clause-keeps
returns-in_err-keep_symbols-clause-keeps c =
    keeps_more c.args.circuit.now c.args.trees.now c.loop-place.trees c.keep_symbols.new.trees
    c.loop-place.invariant.keeps c.in_err-keep_symbols.ensures.keeps

pub loop-place-preserved : goal.loop-place-preserved
loop-place-preserved c =
    let at = slice_get-get_or c.args.alternatives.now c.loop-place.place c.index-alternatives-place.result
    c.loop-place-test.true in
    let now = c.loop-place.invariant in
    let kept = c.in_ok-keep_symbols.ensures in
    record {
      keeps = keeps_more c.args.circuit.now c.args.trees.now c.loop-place.trees c.keep_symbols.new.trees now.keeps
          kept.keeps;
      kept = fields_turn c.args.circuit.now c.loop-place.trees c.keep_symbols.new.trees c.args.alternatives.now
          c.loop-place.place _ _ at c.as_slice.ensures kept.keeps now.kept kept.kept;
    }

pub returns-clause-kept : goal.returns-clause-kept
returns-clause-kept c = λ j y at.
    c.loop-place.invariant.kept j y
    (let w = slice_get_within c.args.alternatives.now j y at in let end = c.loop-place-test.false in omega arith) at

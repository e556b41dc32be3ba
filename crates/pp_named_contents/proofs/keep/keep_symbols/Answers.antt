use Rattle.std.proofs.Common.{arith}
use Rattle.std.proofs.lemmas.Option.{slice_get_within}
use Rattle.pp_gate.proofs.Places.{at_read}
use Rattle.pp_domain.specs.declared.symbol.Symbol.TheVariants as symbol
use Rattle.pp_named_contents.proofs.Kept.{keeps_more, kept_turn, named_one}
use Rattle.pp_named_contents.proofs.keep.keep_symbols.Goals as goal

pub keep_symbol-requires : goal.keep_symbol-requires
keep_symbol-requires c =
    let at = at_read c.args.symbols.now c.loop-place.place c.index-symbols-place.result c.loop-place-test.true
    c.index-symbols-place.is in
    record { named = named_one c.args.circuit.now c.args.symbols.now c.loop-place.place _ at c.requires.named }

pub returns-in_err-keep_symbol-clause-keeps : goal.returns-in_err-keep_symbol-clause-keeps
returns-in_err-keep_symbol-clause-keeps c =
    keeps_more c.args.circuit.now c.args.trees.now c.loop-place.trees c.keep_symbol.new.trees
    c.loop-place.invariant.keeps c.in_err-keep_symbol.ensures.keeps

pub loop-place-preserved : goal.loop-place-preserved
loop-place-preserved c =
    let at = at_read c.args.symbols.now c.loop-place.place c.index-symbols-place.result c.loop-place-test.true
    c.index-symbols-place.is in
    let now = c.loop-place.invariant in
    let kept = c.in_ok-keep_symbol.ensures in
    record {
      keeps = keeps_more c.args.circuit.now c.args.trees.now c.loop-place.trees c.keep_symbol.new.trees now.keeps
          kept.keeps;
      kept = kept_turn c.args.circuit.now c.loop-place.trees c.keep_symbol.new.trees c.args.symbols.now
          c.loop-place.place _ at kept.keeps now.kept kept.kept;
    }

pub returns-clause-kept : goal.returns-clause-kept
returns-clause-kept c = λ p t at.
    c.loop-place.invariant.kept p t
    (let w = slice_get_within c.args.symbols.now p (symbol.Tree t) at in
    let end = c.loop-place-test.false in omega arith)
    at

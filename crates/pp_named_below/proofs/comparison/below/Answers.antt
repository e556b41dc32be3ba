use Rattle.std.proofs.Common.{arith}
use Rattle.pp_gate.proofs.Growing.{AddsGates_none}
use Rattle.pp_domain.proofs.AnySort.{Moves_gates}
use Rattle.pp_domain.proofs.Composition.{Moves_weaker}
use Rattle.pp_named_trees.specs.Meaning.{named_sense}
use Rattle.pp_named_trees.proofs.Lawful.{named_lawful}
use Rattle.pp_named_below.proofs.Lying.{fields_named}
use Rattle.pp_named_below.proofs.Searching.{affords_fits, affords_more, affords_moves, affords_start, fields_read}
use Rattle.pp_named_below.proofs.Searching.{search_comparison, search_start, search_turn, visit_at}
use Rattle.pp_named_below.proofs.comparison.below.Goals as goal

pub returns-in_err-search-clause-moves : goal.returns-in_err-search-clause-moves
returns-in_err-search-clause-moves c =
    let gs = c.args.circuit.now in
    Moves_weaker _ _ _ _ _ _ 0 _ (Moves_gates named_sense c.args.table.now named_lawful c.args.trees.now gs gs 0
    c.requires.fits (AddsGates_none gs 0 c.requires.fits.circuit)) (omega arith)

pub loop-next-init : goal.loop-next-init
loop-next-init c =
    let start = c.in_ok-search.ensures in
    record {
      affords = affords_start c.args.circuit.now _ c.args.trees.now.expansions c.args.old.now c.in_ok-search.search
          c.requires.fits.circuit c.as_slice-expansions.ensures start;
      search = search_start c.args.table.now c.args.trees.now c.args.circuit.now _ c.args.new.now c.args.old.now
          c.in_ok-search.search start;
    }

pub returns-in_err-fields-clause-moves : goal.returns-in_err-fields-clause-moves
returns-in_err-fields-clause-moves c =
    affords_moves c.args.table.now c.args.trees.now c.args.circuit.now c.loop-next.circuit c.loop-next.search
    c.requires.fits c.loop-next.invariant.affords

pub take_fields-requires-clause-path : goal.take_fields-requires-clause-path
take_fields-requires-clause-path c =
    let at = visit_at c.as_slice.result.now c.loop-next.search.visits c.loop-next.next _ c.index-as_slice-next.result
    c.as_slice.ensures c.len.ensures c.loop-next-test.true c.index-as_slice-next.is in
    (c.loop-next.invariant.search.visits c.loop-next.next _ at).of

pub take_fields-requires-clause-fields : goal.take_fields-requires-clause-fields
take_fields-requires-clause-fields c =
    fields_named c.args.table.now c.args.trees.now c.loop-next.circuit c.index-as_slice-next.result.tree _
    (affords_fits c.args.table.now c.args.trees.now c.args.circuit.now c.loop-next.circuit _ c.loop-next.search
    c.requires.fits c.loop-next.invariant.affords)
    (fields_read c.index-as_slice-next.result.tree _ c.args.trees.now.expansions _ c.in_ok-fields.fields
    c.as_slice-expansions.ensures c.as_slice-in-loop-next.ensures c.in_ok-fields.ensures)

pub returns-in_err-take_fields-clause-moves : goal.returns-in_err-take_fields-clause-moves
returns-in_err-take_fields-clause-moves c =
    affords_moves c.args.table.now c.args.trees.now c.args.circuit.now c.take_fields.new.circuit
    c.take_fields.new.search c.requires.fits
    (affords_more c.args.circuit.now c.loop-next.circuit c.take_fields.new.circuit _ c.loop-next.search
    c.take_fields.new.search c.loop-next.invariant.affords c.in_err-take_fields.ensures.spends)

pub loop-next-preserved : goal.loop-next-preserved
loop-next-preserved c =
    let now = c.loop-next.invariant in
    let taken = c.in_ok-take_fields.ensures in
    let at = visit_at c.as_slice.result.now c.loop-next.search.visits c.loop-next.next _ c.index-as_slice-next.result
    c.as_slice.ensures c.len.ensures c.loop-next-test.true c.index-as_slice-next.is in
    record {
      affords = affords_more c.args.circuit.now c.loop-next.circuit c.take_fields.new.circuit _ c.loop-next.search
          c.take_fields.new.search now.affords taken.spends;
      search = search_turn c.args.table.now c.args.trees.now c.loop-next.circuit c.take_fields.new.circuit _
          taken.spends.adds
          (affords_fits c.args.table.now c.args.trees.now c.args.circuit.now c.loop-next.circuit _ c.loop-next.search
          c.requires.fits now.affords) c.args.new.now c.args.old.now c.index-as_slice-next.result
          (now.search.visits c.loop-next.next _ at) _
          (fields_read c.index-as_slice-next.result.tree _ c.args.trees.now.expansions _ c.in_ok-fields.fields
          c.as_slice-expansions.ensures c.as_slice-in-loop-next.ensures c.in_ok-fields.ensures)
          c.loop-next.search c.take_fields.new.search now.search taken.taken;
    }

pub returns-clause-moves : goal.returns-clause-moves
returns-clause-moves c =
    affords_moves c.args.table.now c.args.trees.now c.args.circuit.now c.loop-next.circuit c.loop-next.search
    c.requires.fits c.loop-next.invariant.affords

pub returns-clause-answer : goal.returns-clause-answer
returns-clause-answer c =
    let now = c.loop-next.invariant in
    search_comparison c.args.table.now c.args.trees.now c.args.circuit.now c.loop-next.circuit _ c.args.new.now
    c.args.old.now c.loop-next.search c.requires.fits now.affords.adds now.search

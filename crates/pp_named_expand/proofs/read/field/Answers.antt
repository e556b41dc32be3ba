use Rattle.std.proofs.Common.{◌∙◌, ap, slice_get, sym}
use Rattle.pp_gate.proofs.Places.{at_read}
use Rattle.pp_named_expand.proofs.ReadTrees.{field_is, field_place, has_ctors}
use Rattle.pp_named_expand.proofs.read.field.Goals as goal

pub expand-requires-clause-ctors : goal.expand-requires-clause-ctors
expand-requires-clause-ctors c = has_ctors c.args.table.now c.args.ctor c.args.tree.now.of c.requires.ctor

pub bounds-as_slice-place : goal.bounds-as_slice-place
bounds-as_slice-place c =
    field_place c.args.table.now c.expand.new.trees c.expand.new.circuit c.in_ok-expand.ensures.moves.fits
    c.args.tree.now c.args.ctor c.ctor_in-found.result.now c.ctor_in-found.ensures c.args.place _ c.as_slice.ensures
    c.requires.place

pub returns-clause-answer : goal.returns-clause-answer
returns-clause-answer c = λ s has.
    let look = c.in_ok-expand.ensures in
    let lt = field_place c.args.table.now c.expand.new.trees c.expand.new.circuit look.moves.fits c.args.tree.now
    c.args.ctor c.ctor_in-found.result.now c.ctor_in-found.ensures c.args.place _ c.as_slice.ensures
    c.requires.place in
    let at = at_read c.as_slice.result.now c.args.place c.index-as_slice-place.result lt c.index-as_slice-place.is in
    field_is c.args.table.now c.expand.new.trees c.expand.new.circuit look.moves.fits c.args.tree.now c.args.ctor
    c.ctor_in-found.result.now c.ctor_in-found.ensures c.args.trees.now c.args.circuit.now c.args.place _ s _ _
    look.look has (ap (λ zs. slice_get zs c.args.place) (sym c.as_slice.ensures) ∙ at) c.saturating_sub.ensures
    c.lowered.ensures

use Rattle.std.proofs.Common.{◌∙◌, ap, refl, slice_get, sym}
use Rattle.std.proofs.lemmas.Option.{slice_get-get_or}
use Rattle.pp_gate.proofs.Places.{at_read}
use Rattle.pp_named_expand.proofs.ReadTrees.{ctor_found, ctor_low, ctor_within, has_ctors, place_within}
use Rattle.pp_named_expand.proofs.read.ctor_in.Goals as goal

pub datatype-requires : goal.datatype-requires
datatype-requires c = (has_ctors c.args.table.now c.args.ctor c.args.tree.now.of c.requires.ctor).within

pub bounds-as_slice-place : goal.bounds-as_slice-place
bounds-as_slice-place c =
    place_within _ _ c.args.trees.now.expansions c.args.tree.now c.place_of-place.result c.as_slice.ensures
    c.as_slice-2.ensures c.place_of-place.ensures c.requires.expanded

pub overflow_sub-result : goal.overflow_sub-result
overflow_sub-result c =
    ctor_low c.args.table.now c.args.ctor c.args.tree.now.of c.requires.ctor c.datatype.result.now c.datatype.ensures

pub bounds-alternatives-ctor : goal.bounds-alternatives-ctor
bounds-alternatives-ctor c =
    let p = c.place_of-place.result in
    let lt = place_within _ c.as_slice-2.result.now c.args.trees.now.expansions c.args.tree.now p c.as_slice.ensures
    c.as_slice-2.ensures c.place_of-place.ensures c.requires.expanded in
    let at = slice_get-get_or c.as_slice-2.result.now p c.index-as_slice-place.result lt in
    let here = ap (λ zs. slice_get zs p) (c.as_slice.ensures ∙ sym c.as_slice-2.ensures) ∙ at in
    ctor_within c.args.table.now c.args.ctor c.args.tree.now.of c.requires.ctor c.datatype.result.now
    c.datatype.ensures c.args.trees.now c.args.circuit.now c.args.tree.now _ p _ _ c.requires.fits refl
    c.as_slice-2.ensures at (c.place_of-place.ensures.of _ here) c.as_slice-alternatives.ensures

pub returns : goal.returns
returns c =
    let p = c.place_of-place.result in
    let lt = place_within _ c.as_slice-2.result.now c.args.trees.now.expansions c.args.tree.now p c.as_slice.ensures
    c.as_slice-2.ensures c.place_of-place.ensures c.requires.expanded in
    let at = slice_get-get_or c.as_slice-2.result.now p c.index-as_slice-place.result lt in
    let here = ap (λ zs. slice_get zs p) (c.as_slice.ensures ∙ sym c.as_slice-2.ensures) ∙ at in
    let few = ctor_within c.args.table.now c.args.ctor c.args.tree.now.of c.requires.ctor c.datatype.result.now
    c.datatype.ensures c.args.trees.now c.args.circuit.now c.args.tree.now _ p _ _ c.requires.fits refl
    c.as_slice-2.ensures at (c.place_of-place.ensures.of _ here) c.as_slice-alternatives.ensures in
    ctor_found c.args.table.now c.args.ctor c.args.tree.now.of c.requires.ctor c.datatype.result.now c.datatype.ensures
    c.args.trees.now c.args.circuit.now c.args.tree.now _ p _ _ _ c.requires.fits refl c.as_slice-2.ensures at
    (c.place_of-place.ensures.of _ here) (c.place_of-place.ensures.name _ here) c.as_slice-alternatives.ensures
    (at_read c.as_slice-alternatives.result.now _ c.index-alternatives-ctor.result few c.index-alternatives-ctor.is)

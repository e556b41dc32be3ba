use Rattle.std.proofs.Common.{◌∙◌, List, slice_get, sym, ap, subst}
use Rattle.pp_bounded_trees.specs.declared.arena.Alternative.{Alternative}
use Rattle.pp_bounded_trees.specs.Alternatives.{IsLiteralAt, IsPlaceOf}
use Rattle.pp_bounded_trees.proofs.Looks.{ctor_test, read_alternatives}
use Rattle.pp_bounded_trees.proofs.arena.Trees.ctor_literal.Goals as goal

pub literal_at-requires : goal.literal_at-requires
literal_at-requires c = λ j y at.
    let same = read_alternatives _ _ _ _ _ _ c.as_slice.ensures c.as_slice-alternatives.ensures c.requires.tree.at in
    let fits = c.requires.fits.arena.each c.args.tree.now.number c.requires.tree.node c.requires.tree.at in
    (fits.each j y (ap (λ (l : List Alternative). slice_get l j) (sym same) ∙ at)).lit_of

pub returns : goal.returns
returns c =
    let same = read_alternatives _ _ _ _ _ _ c.as_slice.ensures c.as_slice-alternatives.ensures c.requires.tree.at in
    ctor_test c.args.table.now c.args.self.now c.args.circuit.now c.args.tree.now c.args.ctor c.place_of-place.result
    c.literal_at.result
    c.requires.fits c.requires.tree
    (subst (λ (l : List Alternative). IsPlaceOf c.args.ctor.0 l c.place_of-place.result) same c.place_of-place.ensures)
    (subst (λ (l : List Alternative). IsLiteralAt c.args.circuit.now l c.place_of-place.result c.literal_at.result)
    same c.literal_at.ensures)

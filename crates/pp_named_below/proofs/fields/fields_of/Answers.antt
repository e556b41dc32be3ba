use Rattle.std.proofs.lemmas.Option.{slice_get-get_or}
use Rattle.pp_named_below.proofs.Reading.{fields_found}
use Rattle.pp_named_below.proofs.fields.fields_of.Goals as goal

pub returns-in_ok-fields : goal.returns-in_ok-fields
returns-in_ok-fields c =
    let place = c.place_of-place.result in
    let at = slice_get-get_or c.args.expansions.now place c.index-expansions-place.result c.if-place-expansions.true in
    fields_found c.args.expansions.now c.args.tree.now place _ _ _ c.place_of-place.ensures at c.as_slice.ensures
    c.in_ok-fields.ensures

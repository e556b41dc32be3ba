use Rattle.std.proofs.Common.{ap, arith, get_or, map, take}
use Rattle.std.proofs.lemmas.List.{take_more}
use Rattle.pp_prog.specs.Values.{greatest}
use Rattle.pp_domain.specs.Symbols.{symbol_height}
use Rattle.pp_named_trees.specs.Meaning.{named_sense}
use Rattle.pp_named_expand.proofs.Constructing.{highest_push}
use Rattle.pp_named_expand.proofs.new.highest.Goals as goal

pub loop-field-preserved : goal.loop-field-preserved
loop-field-preserved c =
    let xs = c.args.fields.now in
    let i = c.loop-field.field-index in
    let high = symbol_height named_sense c.args.trees.now in
    let e = ap (λ l. greatest (map high l)) (take_more xs i c.field-item.result c.loop-field-test.true) in
    let p = highest_push c.args.trees.now (take i xs) (get_or xs i c.field-item.result) in
    let h = ap high c.field-item.is in
    omega (arith, e, p, h, c.height_of.ensures, c.max-most.ensures, c.loop-field.invariant)

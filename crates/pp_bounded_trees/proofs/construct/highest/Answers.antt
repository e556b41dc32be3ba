use Rattle.std.proofs.Common.{take, map, get_or, arith, ap}
use Rattle.std.proofs.lemmas.List.{take_more}
use Rattle.pp_prog.specs.Values.{greatest}
use Rattle.pp_bounded_trees.specs.Arena.{height_of}
use Rattle.pp_bounded_trees.proofs.Known.{highest_push}
use Rattle.pp_bounded_trees.proofs.construct.highest.Goals as goal

pub loop-field-preserved : goal.loop-field-preserved
loop-field-preserved c =
    let xs = c.args.fields.now in
    let i = c.loop-field.field-index in
    let e = ap (λ l. greatest (map height_of l)) (take_more xs i c.field-item.result c.loop-field-test.true) in
    let p = highest_push (take i xs) (get_or xs i c.field-item.result) in
    let h = ap height_of c.field-item.is in
    omega (arith, e, p, h, c.height_of.ensures, c.max-most.ensures, c.loop-field.invariant)

use Rattle.std.proofs.Common.{take, map, get_or, arith, ap, ◌∙◌}
use Rattle.std.proofs.lemmas.List.{take_more, take_all}
use Rattle.pp_prog.specs.Values.{height, greatest}
use Rattle.pp_prog.proofs.Values.{heights_push, height_of_tree}
use Rattle.pp_prog.proofs.value.Value.+height.Goals as goal

pub loop-field-preserved : goal.loop-field-preserved
loop-field-preserved t c =
    let xs = c.as_slice-field-items.result.now in
    let i = c.loop-field.field-index in
    let e = ap (λ l. greatest (map height l)) (take_more xs i c.field-item.result c.loop-field-test.true) in
    let p = heights_push (take i xs) (get_or xs i c.field-item.result) in
    let h = ap height c.field-item.is in
    omega (arith, e, p, h, c.height.ensures, c.max-most.ensures, c.loop-field.invariant)

pub returns-after-loop-field : goal.returns-after-loop-field
returns-after-loop-field t c =
    let xs = c.as_slice-field-items.result.now in
    let all = ap (λ l. greatest (map height l)) (take_all c.loop-field.field-index xs c.loop-field-test.false) in
    let own = ap height c.in-Tree.is ∙ height_of_tree c.in-Tree.field-0 c.in-Tree.fields in
    let same = ap (λ l. greatest (map height l)) c.as_slice-field-items.ensures in
    omega (arith, all, own, same, c.saturating_add.ensures, c.loop-field.invariant)

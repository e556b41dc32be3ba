use Rattle.std.proofs.Common.{◌∙◌, ◌-◌, sym, ap, arith}
use Rattle.std.specs.List.{list_any}
use Rattle.pp_prog.specs.declared.sort.Sort.{Sort}
use Rattle.pp_gate.proofs.Places.{at_read}
use Rattle.pp_bounded_trees.specs.Possible.{has_value, is_possible}
use Rattle.pp_bounded_trees.proofs.Candidates.{any_from, has_value_next}
use Rattle.pp_bounded_trees.proofs.possible.+possible.Goals as goal

pub has_value-returns-then-is_possible : goal.has_value-returns-then-is_possible
has_value-returns-then-is_possible t c =
    let next = has_value_next c.args.table.now c.args.height c.in-Tree.of
    (let h = c.if-height-eq0.false in omega arith) in
    let at = at_read c.ctors_of-ctor-items.result.now c.loop-ctor.ctor-index c.ctor-item.result c.loop-ctor-test.true
    c.ctor-item.is in
    let any = any_from (is_possible (has_value c.args.table.now (c.args.height - 1))) c.ctors_of-ctor-items.result.now
    c.loop-ctor.ctor-index c.ctor-item.result at (sym c.is_possible.ensures ∙ c.if-is_possible.true) in
    sym (ap (λ (s : Sort). has_value c.args.table.now c.args.height s) c.in-Tree.is
    ∙ next ∙ ap (list_any (is_possible (has_value c.args.table.now (c.args.height - 1)))) (sym
    c.ctors_of-ctor-items.ensures)
    ∙ any)

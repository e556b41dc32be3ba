use Rattle.std.proofs.Common.{◌++◌, sym, ap, ◌∙◌}
use Rattle.pp_list.proofs.Joined.{parts_more}
use Rattle.pp_translation.specs.Numbered.{unguarded_case}
use Rattle.pp_translate.proofs.exprs.unguarded.Goals as goal

pub loop-c-preserved : goal.loop-c-preserved
loop-c-preserved c =
    let f = unguarded_case c.args.typed.now c.args.target.now.numbers.roots c.args.sort.now in
    c.in_ok-add_unguarded.ensures ∙ ap (λ l. l ++ f c.c-item.result) c.loop-c.invariant
    ∙ sym (parts_more f c.args.cases.now c.loop-c.c-index c.c-item.result c.loop-c-test.true c.c-item.is)

use Rattle.std.proofs.Common.{map, sym, ap, ◌∙◌}
use Rattle.pp_checks.specs.Marks.{goes_down, is_inside, seen}
use Rattle.pp_checks.proofs.Listed.{goes_down_at}
use Rattle.pp_checks.proofs.plain.goes_down.Goals as goal

pub returns-in-Some-at : goal.returns-in-Some-at
returns-in-Some-at c =
    c.is_inside.ensures ∙ ap (is_inside c.args.marks.now) c.variable_of.ensures
    ∙ sym (ap (λ o. goes_down o (map (seen c.args.d.functions.now c.args.d.param) c.args.args.now)
    c.args.marks.now) c.in-Some.is ∙ goes_down_at c.args.d.functions.now c.args.d.param c.in-Some.q
    c.args.args.now c.in-Some-at.arg.now c.args.marks.now (sym c.in-Some-at.ensures))

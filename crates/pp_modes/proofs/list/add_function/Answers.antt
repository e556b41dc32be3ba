use Rattle.std.proofs.Common.{map, string_bytes, sym, ap, ◌∙◌}
use Rattle.std.proofs.lemmas.Option.{same_Some}
use Rattle.pp_modes.proofs.Asked.{if_ok}
use Rattle.pp_modes.proofs.Lines.{function_added, pushed}
use Rattle.pp_prog.specs.declared.expr.Function.{Function}
use Rattle.pp_modes.proofs.list.add_function.Goals as goal

pub returns : goal.returns
returns c =
    if_ok c.add_checks.result c.add_checks.ensures
    (λ u rest g at round depth shared. function_added c.args.program.now round depth c.args.f c.args.estimate
    c.own_checks.result g
    c.as_str-name.result.now c.checks.result.now (map string_bytes c.args.lines.now.items)
    (c.as_str-name.ensures ∙ ap (λ (z : Function). z.name) (same_Some _ _ (sym c.function.ensures ∙ at)))
    c.own_checks.ensures
    c.checks.ensures.all shared
    (pushed c.args.lines.now.items c.push.new.self.items c.in_ok-count_line.field-0 _ c.in_ok-push.ensures.items
    c.in_ok-count_line.ensures)
    rest)

use Rattle.std.proofs.Common.{drop, arith, ap, sym, ◌∙◌}
use Rattle.std.proofs.lemmas.List.{take_all, length-drop}
use Rattle.pp_rules.specs.Scope.{has_name}
use Rattle.pp_typing.specs.Views.{scope_of}
use Rattle.pp_typing.proofs.Lists.{shown_drop}
use Rattle.pp_typing.proofs.scope.reaches.Goals as goal

pub returns : goal.returns
returns c =
    let e = ap (has_name c.args.name.now) (shown_drop c.args.from c.args.scope.now) in
    let rest = drop c.args.from c.args.scope.now in
    let all = take_all _ rest (omega (arith, length-drop c.args.from c.args.scope.now)) in
    c.has_name.ensures ∙ ap (λ l. has_name c.args.name.now (scope_of l)) all ∙ sym e

use Rattle.std.proofs.Common.{◌++◌, List, sym, ap, ◌∙◌}
use Rattle.pp_prog.specs.declared.types.Ctor.{Ctor}
use Rattle.pp_prog.specs.Results.{binds, result_of}
use Rattle.pp_checks.proofs.Binding.{first_case}
use Rattle.pp_checks.proofs.sorts.+sort.Goals as goal

pub first_sort-returns-in_ok-result-in-Some-clause-told : goal.first_sort-returns-in_ok-result-in-Some-clause-told
first_sort-returns-in_ok-result-in-Some-clause-told t c =
    c.in_ok-result-in-Some.ensures.told ∙ ap (result_of c.args.types.now c.args.functions.now
    c.in-Some.case.now.body) (c.in_ok-bind-in-Some.ensures ∙ ap (λ (k : List Ctor). c.args.scope.now ++ binds k
    c.in-Some.case.now.pattern c.args.s) c.as_slice.ensures) ∙ sym (first_case c.args.types.now
    c.args.functions.now c.args.cases.now c.in-Some.case.now c.args.s c.args.scope.now (sym c.in-Some.ensures))

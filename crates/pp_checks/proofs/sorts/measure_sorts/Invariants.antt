use Rattle.std.proofs.Common.{◌≡◌, map, take}
use Rattle.pp_prog.specs.declared.expr.Expr.{Expr}
use Rattle.pp_prog.specs.Results.{result_of}
use Rattle.pp_prog.specs.Sorts.{param_sorts}
use Rattle.pp_checks.proofs.sorts.measure_sorts.Given as goal

abbrev pub invariant-loop-e : goal.invariant-loop-e
invariant-loop-e l =
    (l.sorts ≡ map (λ (e : Expr). result_of l.types l.functions e (param_sorts l.f.params)) (take l.e-index
    l.f.measure))
    × (l.scope ≡ param_sorts l.f.params)

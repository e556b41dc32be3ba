use Rattle.std.proofs.Common.{◌≡◌, ◌+◌, ◌*◌, drop, map, max}
use Rattle.pp_prog.specs.declared.expr.Case.{size-Case}
use Rattle.pp_prog.specs.declared.expr.Expr.{size-Expr}
use Rattle.pp_eval.specs.Callees.{call_meaning}
use Rattle.pp_eval.specs.Meaning.{all, all_from, arm, first_case, meaning}
use Rattle.pp_prog.proofs.ExprSizes.{most_case, most_size, option_size}
use Rattle.pp_eval.proofs.Width.{function_size, width}
use Rattle.pp_eval.proofs.+eval.Given as goal

abbrev pub decreases-invocation::call : goal.decreases-invocation::call
decreases-invocation::call l = l.callees.fuel * width l.callees.functions.now

abbrev pub decreases-invocation::enter : goal.decreases-invocation::enter
decreases-invocation::enter l = l.callees.fuel * width l.callees.functions.now + (4 * function_size l.f.now + 4)

abbrev pub decreases-invocation::admit : goal.decreases-invocation::admit
decreases-invocation::admit l = l.callees.fuel * width l.callees.functions.now + (4 * option_size l.pre.now + 3)

abbrev pub decreases-invocation::frame_of : goal.decreases-invocation::frame_of
decreases-invocation::frame_of l = l.callees.fuel * width l.callees.functions.now + (4 * most_size l.measure.now + 3)

abbrev pub decreases-eval::value_of : goal.decreases-eval::value_of
decreases-eval::value_of l = l.callees.fuel * width l.callees.functions.now + (4 * size-Expr l.e.now + 1)

abbrev pub decreases-eval::binary : goal.decreases-eval::binary
decreases-eval::binary l =
    l.callees.fuel * width l.callees.functions.now + (4 * max (size-Expr l.a.now) (size-Expr l.b.now) + 2)

abbrev pub decreases-eval::values_of : goal.decreases-eval::values_of
decreases-eval::values_of l = l.callees.fuel * width l.callees.functions.now + (4 * most_size l.exprs.now + 2)

abbrev pub decreases-eval::case_of : goal.decreases-eval::case_of
decreases-eval::case_of l = l.callees.fuel * width l.callees.functions.now + (4 * most_case l.cases.now + 2)

abbrev pub decreases-eval::attempt : goal.decreases-eval::attempt
decreases-eval::attempt l = l.callees.fuel * width l.callees.functions.now + (4 * size-Case l.case.now + 1)

abbrev pub decreases-eval::holds : goal.decreases-eval::holds
decreases-eval::holds l = l.callees.fuel * width l.callees.functions.now + (4 * option_size l.condition.now + 2)

abbrev pub invariant-eval::values_of-loop-e : goal.invariant-eval::values_of-loop-e
invariant-eval::values_of-loop-e l =
    let m = meaning (call_meaning l.callees) in
    (all (map m l.exprs) l.frame l.initial.env ≡ all_from l.values (map m (drop l.e-index l.exprs)) l.frame
    l.initial.env)
    × (l.env ≡ l.initial.env)

abbrev pub invariant-eval::case_of-loop-case : goal.invariant-eval::case_of-loop-case
invariant-eval::case_of-loop-case l =
    let a = arm (call_meaning l.callees) in
    (first_case (map a l.cases) l.check l.v l.frame l.initial.env ≡ first_case (map a (drop l.case-index l.cases))
    l.check l.v l.frame l.initial.env)
    × (l.env ≡ l.initial.env)

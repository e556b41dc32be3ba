use Rattle.std.proofs.Common.{◌≡◌, ◌+◌, ◌*◌, drop, length, map, max}
use Rattle.pp_prog.specs.declared.expr.Case.{size-Case}
use Rattle.pp_prog.specs.declared.expr.Expr.{size-Expr}
use Rattle.pp_prog.proofs.ExprSizes.{most_case, most_size, option_size}
use Rattle.pp_eval.proofs.Width.{function_size}
use Rattle.pp_steps.specs.Compile.{all, all_from}
use Rattle.pp_compile.specs.Sites.{compile_at}
use Rattle.pp_compile.proofs.Ahead.{IsAheadAll}
use Rattle.pp_compile.proofs.Width.{depth_of, span, wide}
use Rattle.pp_compile.proofs.+compile.Given as goal

abbrev pub decreases-calls::call : goal.decreases-calls::call
decreases-calls::call l = depth_of l.site.calls.kind * span l.site.calls.functions.now

abbrev pub decreases-calls::enter : goal.decreases-calls::enter
decreases-calls::enter l = depth_of l.site.calls.kind * span l.site.calls.functions.now +
    (wide * function_size l.f.now + 12)

abbrev pub decreases-calls::enter_own : goal.decreases-calls::enter_own
decreases-calls::enter_own l = wide * function_size l.f.now + 13

abbrev pub decreases-calls::compare : goal.decreases-calls::compare
decreases-calls::compare l = depth_of l.site.calls.kind * span l.site.calls.functions.now +
    (wide * most_size l.measure.now + 12)

abbrev pub decreases-calls::admit : goal.decreases-calls::admit
decreases-calls::admit l = depth_of l.calls.kind * span l.calls.functions.now + (wide * option_size l.pre.now + 11)

abbrev pub decreases-calls::frame_of : goal.decreases-calls::frame_of
decreases-calls::frame_of l = depth_of l.calls.kind * span l.calls.functions.now + (wide * most_size l.measure.now + 11)

abbrev pub decreases-exprs::value_of : goal.decreases-exprs::value_of
decreases-exprs::value_of l = depth_of l.site.calls.kind * span l.site.calls.functions.now +
    (wide * size-Expr l.e.now + 2)

abbrev pub decreases-exprs::values_of : goal.decreases-exprs::values_of
decreases-exprs::values_of l = depth_of l.site.calls.kind * span l.site.calls.functions.now +
    (wide * most_size l.exprs.now + 3)

abbrev pub decreases-operators::binary_of : goal.decreases-operators::binary_of
decreases-operators::binary_of l =
    depth_of l.site.calls.kind * span l.site.calls.functions.now +
    (wide * max (size-Expr l.a.now) (size-Expr l.b.now) + 4)

abbrev pub decreases-operators::both_of : goal.decreases-operators::both_of
decreases-operators::both_of l =
    depth_of l.site.calls.kind * span l.site.calls.functions.now +
    (wide * max (size-Expr l.a.now) (size-Expr l.b.now) + 3)

abbrev pub decreases-operators::either_of : goal.decreases-operators::either_of
decreases-operators::either_of l =
    depth_of l.site.calls.kind * span l.site.calls.functions.now +
    (wide * max (size-Expr l.a.now) (size-Expr l.b.now) + 3)

abbrev pub decreases-operators::strict_of : goal.decreases-operators::strict_of
decreases-operators::strict_of l =
    depth_of l.site.calls.kind * span l.site.calls.functions.now +
    (wide * max (size-Expr l.a.now) (size-Expr l.b.now) + 3)

abbrev pub decreases-operators::branches_of : goal.decreases-operators::branches_of
decreases-operators::branches_of l =
    depth_of l.site.calls.kind * span l.site.calls.functions.now +
    (wide * max (size-Expr l.a.now) (size-Expr l.b.now) + 3)

abbrev pub invariant-exprs::values_of-loop-e : goal.invariant-exprs::values_of-loop-e
invariant-exprs::values_of-loop-e l =
    let m = compile_at l.site in
    IsAheadAll l.initial.work l.work (all (map m l.exprs) (length l.initial.work.steps) l.initial.env l.initial.reach)
    (all_from l.out (map m (drop l.e-index l.exprs)) (length l.work.steps) l.initial.env l.alive)
    × (l.env ≡ l.initial.env)

abbrev pub decreases-cases::case_of : goal.decreases-cases::case_of
decreases-cases::case_of l = depth_of l.site.calls.kind * span l.site.calls.functions.now +
    (wide * most_case l.cases.now + (length l.cases.now + 5))

abbrev pub decreases-cases::attempt : goal.decreases-cases::attempt
decreases-cases::attempt l = depth_of l.site.calls.kind * span l.site.calls.functions.now +
    (wide * size-Case l.case.now + 4)

abbrev pub decreases-cases::decide : goal.decreases-cases::decide
decreases-cases::decide l = depth_of l.site.calls.kind * span l.site.calls.functions.now +
    (wide * option_size l.guard.now + 3)

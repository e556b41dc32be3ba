use Rattle.std.proofs.Common.{◌≡◌, ◌+◌, ◌*◌, [], drop, max}
use Rattle.pp_tree.specs.declared.expr.Case.{size-Case}
use Rattle.pp_tree.specs.declared.expr.Expr.{size-Expr}
use Rattle.pp_typing.specs.Views.{args_typing, cases_typing}
use Rattle.pp_typing.proofs.expr.+typing.Given as goal
use denote.Param.Weighed.{most}

abbrev pub decreases-expr : goal.decreases-expr
decreases-expr l = 4 * size-Expr l.e.now

abbrev pub decreases-part : goal.decreases-part
decreases-part l = 4 * size-Expr l.e.now + 1

abbrev pub decreases-condition : goal.decreases-condition
decreases-condition l = 4 * size-Expr l.c.now + 2

abbrev pub decreases-binary : goal.decreases-binary
decreases-binary l = 4 * max (size-Expr l.a.now) (size-Expr l.b.now) + 3

abbrev pub decreases-choice : goal.decreases-choice
decreases-choice l = 4 * max (size-Expr l.c.now) (max (size-Expr l.a.now) (size-Expr l.b.now)) + 3

abbrev pub decreases-value : goal.decreases-value
decreases-value l = 4 * max (size-Expr l.a.now) (size-Expr l.b.now) + 3

abbrev pub decreases-argument : goal.decreases-argument
decreases-argument l = 4 * size-Expr l.e.now + 1

abbrev pub decreases-arguments : goal.decreases-arguments
decreases-arguments l = 4 * most size-Expr l.es.now + 2

abbrev pub decreases-application : goal.decreases-application
decreases-application l = 4 * most size-Expr l.es.now + 3

abbrev pub invariant-arguments-loop-i : goal.invariant-arguments-loop-i
invariant-arguments-loop-i l =
    (args_typing l.context l.initial.scope [] l.es l.params l.initial.found
    ≡ args_typing l.context l.initial.scope l.done (drop l.i l.es) (drop l.i l.params) l.found)
    × (l.scope ≡ l.initial.scope)

abbrev pub decreases-plain_arm : goal.decreases-plain_arm
decreases-plain_arm l = 4 * size-Expr l.body.now + 3

abbrev pub decreases-guarded_arm : goal.decreases-guarded_arm
decreases-guarded_arm l = 4 * max (size-Expr l.test.now) (size-Expr l.body.now) + 3

abbrev pub decreases-arm : goal.decreases-arm
decreases-arm l = 4 * size-Case l.case.now

abbrev pub decreases-arms : goal.decreases-arms
decreases-arms l = 4 * most size-Case l.cases.now + 1

abbrev pub decreases-matching : goal.decreases-matching
decreases-matching l = 4 * max (size-Expr l.e.now) (most size-Case l.cases.now) + 3

abbrev pub invariant-arms-loop-i : goal.invariant-arms-loop-i
invariant-arms-loop-i l =
    (cases_typing l.context l.initial.scope l.expected l.sort [] l.cases
    ≡ cases_typing l.context l.initial.scope l.expected l.sort l.done (drop l.i l.cases))
    × (l.scope ≡ l.initial.scope)

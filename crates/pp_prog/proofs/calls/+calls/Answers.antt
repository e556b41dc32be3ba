use Rattle.std.proofs.Common.{◌∷◌, [], List, map, ap, ◌∙◌}
use Rattle.pp_list.specs.Joined.{joined}
use Rattle.pp_prog.specs.declared.expr.Case.{Case}
use Rattle.pp_prog.specs.declared.expr.Expr.{Expr}
use Rattle.pp_prog.specs.Calls.{calls, calls_in_case, pre_calls}
use Rattle.pp_prog.proofs.CallForms.{calls_of_match, calls_of_val, calls_of_assert, calls_of_call, calls_of_case}
use Rattle.pp_list.proofs.Joined.{one_more, two_parts}
use Rattle.pp_prog.proofs.calls.+calls.Goals as goal

pub add_all-loop-e-preserved : goal.add_all-loop-e-preserved
add_all-loop-e-preserved t c =
    one_more calls c.args.es.now c.loop-e.e-index c.e-item.result c.args.found.now c.loop-e-test.true c.e-item.is
    c.loop-e.invariant c.in_ok-add_calls.ensures

pub add_cases-loop-c-preserved : goal.add_cases-loop-c-preserved
add_cases-loop-c-preserved t c =
    one_more calls_in_case c.args.cases.now c.loop-c.c-index c.c-item.result c.args.found.now c.loop-c-test.true
    c.c-item.is c.loop-c.invariant c.in_ok-add_case.ensures

pub add_calls-returns-in_ok-add_cases-in-Match : goal.add_calls-returns-in_ok-add_cases-in-Match
add_calls-returns-in_ok-add_cases-in-Match t c =
    let whole = ap calls c.in-Match.is ∙ calls_of_match c.in-Match.e c.in-Match.cases c.in-Match.field-2 in
    two_parts c.args.found.now (calls c.get-in-Match.result.now)
    (joined (map calls_in_case c.as_slice-in-Match.result.now)) c.in_ok-add_calls-in-Match.ensures
    c.in_ok-add_cases-in-Match.ensures
    (cc (
      ap calls c.get-in-Match.ensures,
      ap (λ (l : List Case). joined (map calls_in_case l)) c.as_slice-in-Match.ensures,
    ))

pub add_calls-returns-in_ok-add_calls-in-Val-2 : goal.add_calls-returns-in_ok-add_calls-in-Val-2
add_calls-returns-in_ok-add_calls-in-Val-2 t c =
    let whole = ap calls c.in-Val.is ∙ calls_of_val c.in-Val.bound c.in-Val.rest in
    two_parts c.args.found.now (calls c.get-in-Val.result.now) (calls c.get-in-Val-2.result.now)
    c.in_ok-add_calls-in-Val.ensures c.in_ok-add_calls-in-Val-2.ensures
    (cc (ap calls c.get-in-Val.ensures, ap calls c.get-in-Val-2.ensures))

pub add_calls-returns-in_ok-add_calls-in-Assert-2 : goal.add_calls-returns-in_ok-add_calls-in-Assert-2
add_calls-returns-in_ok-add_calls-in-Assert-2 t c =
    let whole = ap calls c.in-Assert.is ∙ calls_of_assert c.in-Assert.field-0 c.in-Assert.c c.in-Assert.rest in
    two_parts c.args.found.now (calls c.get-in-Assert.result.now) (calls c.get-in-Assert-2.result.now)
    c.in_ok-add_calls-in-Assert.ensures c.in_ok-add_calls-in-Assert-2.ensures
    (cc (ap calls c.get-in-Assert.ensures, ap calls c.get-in-Assert-2.ensures))

pub add_calls-returns-in_ok-push-in-Call : goal.add_calls-returns-in_ok-push-in-Call
add_calls-returns-in_ok-push-in-Call t c =
    let whole = ap calls c.in-Call.is ∙ calls_of_call c.in-Call.callee c.in-Call.args c.in-Call.pre c.in-Call.measure in
    two_parts c.args.found.now (joined (map calls c.as_slice-in-Call.result.now)) (c.in-Call.callee.0 ∷ [])
    c.in_ok-add_all-in-Call.ensures c.in_ok-push-in-Call.ensures.ok
    (cc (ap (λ (l : List Expr). joined (map calls l)) c.as_slice-in-Call.ensures))

pub add_case-returns : goal.add_case-returns
add_case-returns t c =
    two_parts c.args.found.now (pre_calls c.args.c.now.guard) (calls c.args.c.now.body) c.in_ok-add_guard.ensures
    c.in_ok-add_calls.ensures (calls_of_case c.args.c.now)

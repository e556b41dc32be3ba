use Rattle.std.proofs.Common.{◌≡◌, ◌∙◌, Err, arith, rules, sym, ap}
use Rattle.pp_eval.specs.Callees.{call_meaning}
use Rattle.pp_eval.specs.Meaning.{arm, meaning}
use Rattle.pp_prog.proofs.ExprSizes.{args_of_call, args_of_construct, case_deeper, cases_of_match, item_case, item_size}
use Rattle.pp_prog.proofs.ExprSizes.{most_case, most_size}
use Rattle.pp_eval.proofs.Width.{call_falls}
use Rattle.pp_eval.proofs.Steps.{binary_at, call_at, case_passed, case_stop, case_taken, tells_along, values_stop}
use Rattle.pp_eval.proofs.Steps.{values_turn}
use Rattle.pp_eval.proofs.+eval.Goals as goal

pub invocation::call-enter-requires : goal.invocation::call-enter-requires
invocation::call-enter-requires t c = (
  omega (
    arith,
    call_falls c.args.callees.functions.now c.args.callee.0 c.in-Some.f.now c.args.callees.fuel
        (sym c.in-Some.ensures) (omega arith),
  ),
  tt,
)

pub invocation::call-returns-in-Some : goal.invocation::call-returns-in-Some
invocation::call-returns-in-Some t c =
    tells_along c.enter.result _ _
    (call_at c.args.callees.ctors.now c.args.callees.functions.now c.args.callees.fuel c.args.frame.now c.args.callee
    c.args.pre c.args.measure c.args.args c.in-Some.f.now (omega arith) (sym c.in-Some.ensures)) c.enter.ensures

pub eval::value_of-returns-in-Binary-clause-told : goal.eval::value_of-returns-in-Binary-clause-told
eval::value_of-returns-in-Binary-clause-told t c =
    tells_along c.binary.result _ _
    (binary_at (call_meaning c.args.callees) c.args.frame.now c.args.env.now c.in-Binary.is c.get-in-Binary.ensures
    c.get-in-Binary-2.ensures) c.binary.ensures.told

pub eval::value_of-values_of-requires : goal.eval::value_of-values_of-requires
eval::value_of-values_of-requires t c =
    (omega (arith, args_of_construct _ _ _ c.in-Construct.is, ap most_size c.as_slice-in-Construct.ensures), tt)

pub eval::value_of-values_of-requires-in-Call : goal.eval::value_of-values_of-requires-in-Call
eval::value_of-values_of-requires-in-Call t c =
    (omega (arith, args_of_call _ _ _ _ _ c.in-Call.is, ap most_size c.as_slice-in-Call.ensures), tt)

pub eval::value_of-case_of-requires : goal.eval::value_of-case_of-requires
eval::value_of-case_of-requires t c =
    (omega (arith, cases_of_match _ _ _ _ c.in-Match.is, ap most_case c.as_slice-in-Match.ensures), tt)

pub eval::values_of-value_of-requires : goal.eval::values_of-value_of-requires
eval::values_of-value_of-requires t c =
    (omega (arith, item_size c.args.exprs.now c.loop-e.e-index c.e-item.result c.loop-e-test.true c.e-item.is), tt)

pub eval::values_of-returns-in_err-v-clause-told : goal.eval::values_of-returns-in_err-v-clause-told
eval::values_of-returns-in_err-v-clause-told t c =
    let stopped : c.from_residual.result ≡ Err c.in_err-v.field-0.0 = search rules in
    values_stop (meaning (call_meaning c.args.callees)) c.args.exprs.now c.loop-e.e-index c.e-item.result
    c.loop-e.values c.args.frame.now c.args.env.now c.loop-e.env _ c.from_residual.result c.in_err-v.field-0.0
    c.loop-e-test.true c.e-item.is c.loop-e.invariant.0 c.loop-e.invariant.1 stopped c.in_err-v.ensures.told

pub eval::values_of-loop-e-preserved : goal.eval::values_of-loop-e-preserved
eval::values_of-loop-e-preserved t c = (
  values_turn (meaning (call_meaning c.args.callees)) c.args.exprs.now c.loop-e.e-index c.e-item.result c.loop-e.values
      c.args.frame.now c.args.env.now c.loop-e.env _ c.in_ok-v.v c.push.new.self
      c.loop-e-test.true c.e-item.is c.loop-e.invariant.0 c.loop-e.invariant.1 c.in_ok-v.ensures.told
      c.in_ok-push.ensures.ok,
  c.in_ok-v.ensures.kept ∙ c.loop-e.invariant.1,
)

pub eval::case_of-attempt-requires : goal.eval::case_of-attempt-requires
eval::case_of-attempt-requires t c = (
  omega (
    arith,
    item_case c.args.cases.now c.loop-case.case-index c.case-item.result c.loop-case-test.true
        c.case-item.is,
  ),
  tt,
)

pub eval::attempt-holds-requires : goal.eval::attempt-holds-requires
eval::attempt-holds-requires t c = (omega (arith, (case_deeper c.args.case.now).0), tt)

pub eval::attempt-value_of-requires : goal.eval::attempt-value_of-requires
eval::attempt-value_of-requires t c = (omega (arith, (case_deeper c.args.case.now).1), tt)

pub eval::case_of-returns-in_err-result-clause-told : goal.eval::case_of-returns-in_err-result-clause-told
eval::case_of-returns-in_err-result-clause-told t c =
    let stopped : c.from_residual.result ≡ Err c.in_err-result.field-0.0 = search rules in
    case_stop (arm (call_meaning c.args.callees)) c.args.cases.now c.loop-case.case-index c.case-item.result
    c.args.check c.args.v.now c.args.frame.now c.args.env.now c.loop-case.env _ c.from_residual.result
    c.in_err-result.field-0.0
    c.loop-case-test.true c.case-item.is c.loop-case.invariant.0 c.loop-case.invariant.1 stopped
    c.in_err-result.ensures.told

pub eval::case_of-returns-in-Some-clause-told : goal.eval::case_of-returns-in-Some-clause-told
eval::case_of-returns-in-Some-clause-told t c =
    case_taken (arm (call_meaning c.args.callees)) c.args.cases.now c.loop-case.case-index c.case-item.result
    c.args.check c.args.v.now c.args.frame.now c.args.env.now c.loop-case.env _ c.in_ok-result.field-0 _
    c.loop-case-test.true c.case-item.is c.loop-case.invariant.0 c.loop-case.invariant.1 c.in_ok-result.ensures.told
    c.in-Some.is

pub eval::case_of-loop-case-preserved : goal.eval::case_of-loop-case-preserved
eval::case_of-loop-case-preserved t c = (
  case_passed (arm (call_meaning c.args.callees)) c.args.cases.now c.loop-case.case-index c.case-item.result
      c.args.check c.args.v.now c.args.frame.now c.args.env.now c.loop-case.env _ c.in_ok-result.field-0
      c.loop-case-test.true c.case-item.is c.loop-case.invariant.0 c.loop-case.invariant.1 c.in_ok-result.ensures.told
      c.in-None.is,
  c.in_ok-result.ensures.kept ∙ c.loop-case.invariant.1,
)

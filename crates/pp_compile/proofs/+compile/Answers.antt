use Rattle.std.proofs.Common.{◌∙◌, [], ◌∷◌, ◌++◌, ap, arith}
use Rattle.pp_prog.proofs.ExprSizes.{cases_of_match, most_case}
use Rattle.pp_compile.specs.Sites.{site_at, site_of}
use Rattle.pp_compile.proofs.Arms.{assert_arm, binary_arm, call_arm, construct_arm, field_arm, if_arm, match_arm}
use Rattle.pp_compile.proofs.Arms.{unary_arm, val_arm}
use Rattle.pp_compile.proofs.Matching.{attempt_made, case_made}
use Rattle.pp_compile.proofs.Joining.{enter_made, ok_map}
use Rattle.pp_compile.proofs.+compile.Goals as goal

pub exprs::value_of-returns-in-Binary-clause-made : goal.exprs::value_of-returns-in-Binary-clause-made
exprs::value_of-returns-in-Binary-clause-made t c =
    ok_map c.binary_of.result c.binary_of.ensures.made
    (λ r h. binary_arm c.args.site.asked (site_at c.args.site) c.args.work.now
    c.args.env.now c.args.reach c.in-Binary.is c.get-in-Binary.ensures c.get-in-Binary-2.ensures h)

pub exprs::value_of-returns-in_ok-xs-in-Construct-clause-made :
    goal.exprs::value_of-returns-in_ok-xs-in-Construct-clause-made
exprs::value_of-returns-in_ok-xs-in-Construct-clause-made t c =
    ok_map c.one-in-Construct.result c.one-in-Construct.ensures
    (λ r h. construct_arm c.args.site.asked (site_at c.args.site) c.args.work.now
    c.args.env.now c.args.reach c.in-Construct.is c.as_slice-in-Construct.ensures
    c.in_ok-xs-in-Construct.ensures.made h)

pub exprs::value_of-returns-in_ok-x-in-Field-clause-made : goal.exprs::value_of-returns-in_ok-x-in-Field-clause-made
exprs::value_of-returns-in_ok-x-in-Field-clause-made t c =
    ok_map c.one-in-Field.result c.one-in-Field.ensures
    (λ r h. field_arm c.args.site.asked (site_at c.args.site) c.args.work.now
    c.args.env.now c.args.reach c.in-Field.is c.get-in-Field.ensures c.in_ok-x-in-Field.ensures.made h)

pub exprs::value_of-returns-in_ok-missed-in-If-clause-made :
    goal.exprs::value_of-returns-in_ok-missed-in-If-clause-made
exprs::value_of-returns-in_ok-missed-in-If-clause-made t c =
    ok_map c.branches_of.result c.branches_of.ensures.made
    (λ r h. if_arm c.args.site.asked (site_at c.args.site) c.args.work.now
    c.args.env.now c.args.reach c.in-If.is c.get-in-If.ensures c.get-in-If-2.ensures c.get-in-If-3.ensures
    c.in_ok-x-in-If.ensures.made c.in_ok-x-in-If.ensures.kept
    c.in_ok-taken-in-If.ensures.written c.in_ok-taken-in-If.ensures.number c.in_ok-missed-in-If.ensures.written
    c.in_ok-missed-in-If.ensures.number h)

pub exprs::value_of-returns-in_ok-result-in-Val-clause-made :
    goal.exprs::value_of-returns-in_ok-result-in-Val-clause-made
exprs::value_of-returns-in_ok-result-in-Val-clause-made t c =
    val_arm c.args.site.asked (site_at c.args.site)
    c.args.work.now c.args.env.now c.args.reach c.in-Val.is c.get-in-Val.ensures c.get-in-Val-2.ensures
    c.in_ok-x-in-Val.ensures.made
    (c.in_ok-push-in-Val.ensures.ok ∙ ap
    (λ l. l ++ c.in_ok-x-in-Val.x.out ∷ []) c.in_ok-x-in-Val.ensures.kept) c.in_ok-result-in-Val.ensures.made

pub exprs::value_of-returns-in_ok-going-in-Assert-clause-made :
    goal.exprs::value_of-returns-in_ok-going-in-Assert-clause-made
exprs::value_of-returns-in_ok-going-in-Assert-clause-made t c =
    ok_map c.value_of-in-Assert-2.result c.value_of-in-Assert-2.ensures.made
    (λ r h. assert_arm c.args.site.asked (site_at c.args.site) c.args.work.now
    c.args.env.now c.args.reach c.in-Assert.is c.get-in-Assert.ensures c.get-in-Assert-2.ensures
    c.in_ok-x-in-Assert.ensures.made c.in_ok-x-in-Assert.ensures.kept
    c.asks.ensures c.in_ok-going-in-Assert.ensures h)

pub exprs::value_of-returns-in_ok-x-in-Unary-clause-made : goal.exprs::value_of-returns-in_ok-x-in-Unary-clause-made
exprs::value_of-returns-in_ok-x-in-Unary-clause-made t c =
    ok_map c.one-in-Unary.result c.one-in-Unary.ensures
    (λ r h. unary_arm c.args.site.asked (site_at c.args.site) c.args.work.now
    c.args.env.now c.args.reach c.in-Unary.is c.get.ensures c.in_ok-x-in-Unary.ensures.made h)

pub exprs::value_of-returns-in_ok-xs-in-Call-clause-made : goal.exprs::value_of-returns-in_ok-xs-in-Call-clause-made
exprs::value_of-returns-in_ok-xs-in-Call-clause-made t c =
    ok_map c.call.result c.call.ensures
    (λ r h. call_arm c.args.site.asked (site_at c.args.site) c.args.work.now
    c.args.env.now c.args.reach c.in-Call.is c.as_slice-in-Call.ensures c.in_ok-xs-in-Call.ensures.made h)

pub calls::enter-returns : goal.calls::enter-returns
calls::enter-returns t c =
    ok_map c.value_of.result c.value_of.ensures.made
    (λ r h. enter_made (site_of c.args.site.calls.functions.now c.args.site.calls.kind) c.args.site.asked
    c.args.site.frame.now c.args.f.now c.args.pre c.args.measure c.args.work.now c.args.args c.args.reach
    c.in_ok-allowed.ensures.made c.in_ok-allowed.ensures.kept c.as_slice.ensures c.in_ok-new.ensures.made
    c.in_ok-new.ensures.kept c.in_ok-entered.ensures h)

pub exprs::value_of-returns-in_ok-found-in-Match-clause-made :
    goal.exprs::value_of-returns-in_ok-found-in-Match-clause-made
exprs::value_of-returns-in_ok-found-in-Match-clause-made t c =
    match_arm c.args.site.asked (site_at c.args.site)
    c.args.work.now c.args.env.now c.args.reach c.in-Match.is c.get-in-Match.ensures c.as_slice-cases.ensures
    c.in_ok-x-in-Match.ensures.made c.in_ok-x-in-Match.ensures.kept
    c.in_ok-found-in-Match.ensures.made c.matched.ensures.out c.matched.ensures.alive

pub exprs::value_of-case_of-requires : goal.exprs::value_of-case_of-requires
exprs::value_of-case_of-requires t c = (
  omega (arith, cases_of_match _ _ _ _ c.in-Match.is, ap most_case c.as_slice-cases.ensures, c.if-cases.false),
  omega (arith, c.if-cases.false),
)

pub cases::attempt-returns-clause-made : goal.cases::attempt-returns-clause-made
cases::attempt-returns-clause-made t c =
    attempt_made c.args.site.asked (site_at c.args.site)
    c.args.case.now
    c.args.work.now c.args.value c.args.env.now c.args.reach c.new.ensures c.new-2.ensures c.in_ok-fit.ensures
    c.as_slice.ensures
    c.in_ok-fits.ensures.written c.in_ok-fits.ensures.number c.in_ok-append.ensures c.in_ok-goes.ensures.made
    c.in_ok-goes.ensures.kept
    c.in_ok-left.ensures.made

pub cases::case_of-returns-in_ok-both-in-Some-clause-made : goal.cases::case_of-returns-in_ok-both-in-Some-clause-made
cases::case_of-returns-in_ok-both-in-Some-clause-made t c =
    case_made c.args.site.asked (site_at c.args.site)
    c.args.check c.args.value
    c.args.work.now c.args.env.now c.args.reach c.args.cases.now c.in-Some.ensures.cases.0
    c.in_ok-tried-in-Some.ensures.made
    c.in_ok-tried-in-Some.ensures.kept c.in_ok-right-in-Some.ensures.made c.in_ok-both-in-Some.ensures

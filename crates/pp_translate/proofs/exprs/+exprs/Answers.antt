use Rattle.std.proofs.Common.{List, [], refl, sym, subst}
use Rattle.pp_translate.specs.Target.{setting}
use Rattle.pp_translate.proofs.Forms.{moved, is_case, is_no_guard, is_guard, is_call, is_construct, is_field, is_unary}
use Rattle.pp_translate.proofs.Forms.{is_binary, is_if, is_val, is_assert, is_match, exprs_turn, cases_turn}
use Rattle.pp_prog.specs.declared.expr.Case.{Case}
use Rattle.pp_prog.specs.declared.expr.Expr.{Expr}
use Rattle.pp_translation.specs.Numbered as spec
use Rattle.pp_translate.proofs.exprs.+exprs.Goals as goal

pub case-returns : goal.case-returns
case-returns t c =
    is_case c.args.typed.now (setting c.args.target.now) c.args.own.now c.args.sort.now c.args.c.now _ _ _ _ _ _
    c.in_ok-pattern.ensures c.in_ok-guard.ensures c.in_ok-body.ensures

pub cases_of-loop-c-init : goal.cases_of-loop-c-init
cases_of-loop-c-init t c =
    subst (λ (l : List Case). spec.TranslateCases c.args.typed.now (setting c.args.target.now) c.args.own.now
    c.args.sort.now [] l c.args.checks.now c.args.checks.now) (sym c.new-done.ensures) spec.no_cases

pub cases_of-loop-c-preserved : goal.cases_of-loop-c-preserved
cases_of-loop-c-preserved t c =
    cases_turn c.args.typed.now (setting c.args.target.now) c.args.own.now c.args.sort.now c.args.cases.now
    c.loop-c.c-index c.c-item.result _ _ _ _ _ _
    c.loop-c-test.true c.c-item.is c.loop-c.invariant c.in_ok-case.ensures c.in_ok-push.ensures.ok

pub expr-returns-in-Int : goal.expr-returns-in-Int
expr-returns-in-Int t c =
    moved c.args.typed.now (setting c.args.target.now) c.args.own.now c.args.e.now _ _ _ _ _ c.int.ensures refl
    (spec.of_int c.in-Int.n c.in-Int.is)

pub expr-returns-in-Bool : goal.expr-returns-in-Bool
expr-returns-in-Bool t c = spec.of_bool c.in-Bool.b c.in-Bool.is

pub expr-returns-in-Local : goal.expr-returns-in-Local
expr-returns-in-Local t c = spec.of_local c.in-Local.i c.in-Local.is

pub expr-returns-in_ok-new-in-Field : goal.expr-returns-in_ok-new-in-Field
expr-returns-in_ok-new-in-Field t c =
    is_field c.args.typed.now (setting c.args.target.now) c.args.own.now c.args.e.now _ _ _ _ _ _ c.in-Field.j
    c.in-Field.is c.get.ensures
    c.in_ok-base-in-Field.ensures c.in_ok-new-in-Field.ensures

pub expr-returns-in_ok-new-in-Unary : goal.expr-returns-in_ok-new-in-Unary
expr-returns-in_ok-new-in-Unary t c =
    is_unary c.args.typed.now (setting c.args.target.now) c.args.own.now c.args.e.now _ _ _ _ _ _ c.in-Unary.op
    c.in-Unary.is c.get-in-Unary.ensures
    c.in_ok-a-in-Unary.ensures c.in_ok-new-in-Unary.ensures

pub expr-returns-in_ok-new-in-Binary-2 : goal.expr-returns-in_ok-new-in-Binary-2
expr-returns-in_ok-new-in-Binary-2 t c =
    is_binary c.args.typed.now (setting c.args.target.now) c.args.own.now c.args.e.now _ _ _ _ _ _ _ _ _ _ _ _
    c.in-Binary.op _ _ c.in-Binary.is
    c.get-in-Binary.ensures c.get-in-Binary-2.ensures c.in_ok-a-in-Binary.ensures c.in_ok-b-in-Binary.ensures
    c.is_division.ensures
    c.in_ok-check-in-Binary.ensures.number c.in_ok-check-in-Binary.ensures.listed
    c.in_ok-new-in-Binary.ensures c.in_ok-new-in-Binary-2.ensures

pub expr-returns-in_ok-new-in-If-3 : goal.expr-returns-in_ok-new-in-If-3
expr-returns-in_ok-new-in-If-3 t c =
    is_if c.args.typed.now (setting c.args.target.now) c.args.own.now c.args.e.now _ _ _ _ _ _ _ _ _ _ _ _ _ _ _ _
    c.in-If.is
    c.get-in-If.ensures c.get-in-If-2.ensures c.get-in-If-3.ensures c.in_ok-c-in-If.ensures c.in_ok-a-in-If.ensures
    c.in_ok-b-in-If.ensures
    c.in_ok-new-in-If.ensures c.in_ok-new-in-If-2.ensures c.in_ok-new-in-If-3.ensures

pub expr-returns-in_ok-new-in-Match : goal.expr-returns-in_ok-new-in-Match
expr-returns-in_ok-new-in-Match t c =
    is_match c.args.typed.now (setting c.args.target.now) c.args.own.now c.args.e.now _ _ _ _ _ _ _ _ _ _ _ _ _ _
    c.in_ok-covered-in-Match.covered _ _ _ c.in-Match.is
    c.get-in-Match.ensures c.get-in-Match-2.ensures c.get-in-Match-3.ensures c.as_slice-in-Match.ensures
    c.as_slice-in-Match-3.ensures c.as_slice-in-Match-2.ensures
    c.in_ok-value-in-Match.ensures c.in_ok-covered-in-Match.ensures c.in_ok-check-in-Match.ensures.number
    c.in_ok-check-in-Match.ensures.listed
    c.in_ok-sort-in-Match.ensures c.in_ok-cases-in-Match.ensures c.in_ok-new-in-Match.ensures

pub expr-returns-in_ok-new-in-Val-2 : goal.expr-returns-in_ok-new-in-Val-2
expr-returns-in_ok-new-in-Val-2 t c =
    is_val c.args.typed.now (setting c.args.target.now) c.args.own.now c.args.e.now _ _ _ _ _ _ _ _ _ _ _ c.in-Val.is
    c.get-in-Val.ensures c.get-in-Val-2.ensures c.in_ok-bound-in-Val.ensures c.in_ok-rest-in-Val.ensures
    c.in_ok-new-in-Val.ensures c.in_ok-new-in-Val-2.ensures

pub expr-returns-in_ok-new-in-Assert-2 : goal.expr-returns-in_ok-new-in-Assert-2
expr-returns-in_ok-new-in-Assert-2 t c =
    is_assert c.args.typed.now (setting c.args.target.now) c.args.own.now c.args.e.now _ _ _ _ _ _ _ _ _ _ _ _ _
    c.in-Assert.is
    c.get-in-Assert.ensures c.get-in-Assert-2.ensures c.in_ok-c-in-Assert.ensures c.in_ok-check-in-Assert.ensures.number
    c.in_ok-check-in-Assert.ensures.listed
    c.in_ok-rest-in-Assert.ensures c.in_ok-new-in-Assert.ensures c.in_ok-new-in-Assert-2.ensures

pub exprs-loop-e-init : goal.exprs-loop-e-init
exprs-loop-e-init t c =
    subst (λ (l : List Expr). spec.TranslateAll c.args.typed.now (setting c.args.target.now) c.args.own.now [] l
    c.args.checks.now c.args.checks.now) (sym c.new-done.ensures) spec.no_exprs

pub exprs-loop-e-preserved : goal.exprs-loop-e-preserved
exprs-loop-e-preserved t c =
    exprs_turn c.args.typed.now (setting c.args.target.now) c.args.own.now c.args.es.now c.loop-e.e-index
    c.e-item.result _ _ _ _ _ _
    c.loop-e-test.true c.e-item.is c.loop-e.invariant c.in_ok-expr.ensures c.in_ok-push.ensures.ok

pub guard-returns-in-None : goal.guard-returns-in-None
guard-returns-in-None t c =
    is_no_guard c.args.typed.now (setting c.args.target.now) c.args.own.now c.args.guard.now _ c.in-None.is

pub guard-returns-in_ok-expr-in-Some : goal.guard-returns-in_ok-expr-in-Some
guard-returns-in_ok-expr-in-Some t c =
    is_guard c.args.typed.now (setting c.args.target.now) c.args.own.now c.args.guard.now _ _ _ _ _ c.in-Some.is refl
    c.in_ok-expr-in-Some.ensures

pub expr-returns-in_ok-args-in-Construct : goal.expr-returns-in_ok-args-in-Construct
expr-returns-in_ok-args-in-Construct t c =
    is_construct c.args.typed.now (setting c.args.target.now) c.args.own.now c.args.e.now _ _ _ _ _ c.in-Construct.c _ _
    _ c.in-Construct.is
    c.as_slice-in-Construct-2.ensures c.in_ok-args-in-Construct.ensures c.as_slice-in-Construct.ensures
    c.in_ok-ctor-in-Construct.ensures

pub expr-returns-in_ok-called-in-Call : goal.expr-returns-in_ok-called-in-Call
expr-returns-in_ok-called-in-Call t c =
    is_call c.args.typed.now (setting c.args.target.now) c.args.own.now c.args.e.now _ _ _ _ _ _ _ c.in-Call.f _ _
    c.in-Call.is
    c.as_slice.ensures c.in_ok-args-in-Call.ensures c.as_slice-in-Call.ensures c.in_ok-called-in-Call.ensures.call
    c.in_ok-called-in-Call.ensures.listed

use Rattle.std.proofs.Common.{◌∙◌, List, Ok, ap, sym}
use Rattle.pp_prog.specs.declared.expr.Case.{Case}
use Rattle.pp_prog.specs.declared.expr.Expr.TheVariants.{outs-Unary, outs-Construct, outs-Field, outs-If, outs-Match}
use Rattle.pp_prog.specs.declared.expr.Expr.TheVariants.{outs-Val, outs-Assert, outs-Call, outs-Int, outs-Bool}
use Rattle.pp_prog.specs.declared.expr.Expr.TheVariants.{outs-Var}
use Rattle.pp_prog.specs.declared.expr.Expr.{Expr}
use Rattle.pp_prog.specs.declared.expr.Expr.TheViews.{out-Expr}
use Rattle.pp_stack.specs.Left.{asserted, branch, call, choose, evaluate, evaluate_all, left, let_in, moved}
use Rattle.pp_stack.specs.State.{applied, constructed, selected}
use Rattle.pp_stack.proofs.Todos.{left_pushed, left_pushed2}
use Rattle.pp_stack.proofs.Plans.{plan_at}
use Rattle.pp_stack.proofs.machine.expand.Goals as goal

pub returns-in_ok-push-in-Unary : goal.returns-in_ok-push-in-Unary
returns-in_ok-push-in-Unary c =
    let k = left c.args.code c.args.todo.now in
    left_pushed2 c.args.code c.push-in-Unary.result c.args.todo.now c.push.new.self c.push-in-Unary.new.self _ _ _
    c.in_ok-push-in-Unary.ensures.ok c.push-in-Unary.ensures.ok
    (ap (λ (z : Expr). evaluate c.args.code z (moved (applied c.in-Unary.op) k)) c.get.ensures
    ∙ sym (plan_at c.args.code c.args.e.now c.args.first k _ (ap out-Expr c.in-Unary.is ∙ outs-Unary _ _)))

pub returns-in_ok-push-in-Construct : goal.returns-in_ok-push-in-Construct
returns-in_ok-push-in-Construct c =
    let k = left c.args.code c.args.todo.now in
    left_pushed2 c.args.code c.push-in-Construct-2.result c.args.todo.now c.push-in-Construct.new.self
    c.push-in-Construct-2.new.self _ _ _
    c.in_ok-push-in-Construct.ensures.ok c.push-in-Construct-2.ensures.ok
    (ap (λ (z : List Expr). evaluate_all c.args.code z
    (moved (λ s. Ok (constructed c.in-Construct.ctor c.args.first s)) k))
    c.as_slice.ensures
    ∙ sym (plan_at c.args.code c.args.e.now c.args.first k _ (ap out-Expr c.in-Construct.is ∙ outs-Construct _ _)))

pub returns-in_ok-push-in-Field : goal.returns-in_ok-push-in-Field
returns-in_ok-push-in-Field c =
    let k = left c.args.code c.args.todo.now in
    left_pushed2 c.args.code c.push-in-Field-2.result c.args.todo.now c.push-in-Field.new.self
    c.push-in-Field-2.new.self _ _ _
    c.in_ok-push-in-Field.ensures.ok c.push-in-Field-2.ensures.ok
    (ap (λ (z : Expr). evaluate c.args.code z (moved (selected c.in-Field.k) k)) c.get-in-Field.ensures
    ∙ sym (plan_at c.args.code c.args.e.now c.args.first k _ (ap out-Expr c.in-Field.is ∙ outs-Field _ _)))

pub returns-in_ok-push-in-If : goal.returns-in_ok-push-in-If
returns-in_ok-push-in-If c =
    let k = left c.args.code c.args.todo.now in
    left_pushed2 c.args.code c.push-in-If-2.result c.args.todo.now c.push-in-If.new.self c.push-in-If-2.new.self _ _ _
    c.in_ok-push-in-If.ensures.ok c.push-in-If-2.ensures.ok
    (ap (λ (z : Expr). evaluate c.args.code z (branch c.args.code c.get-in-If.result.now c.get-in-If-2.result.now k))
    c.get-in-If-3.ensures
    ∙ ap (λ (z : Expr). evaluate c.args.code c.in-If.c (branch c.args.code z c.get-in-If-2.result.now k))
    c.get-in-If.ensures
    ∙ ap (λ (z : Expr). evaluate c.args.code c.in-If.c (branch c.args.code c.in-If.a z k)) c.get-in-If-2.ensures
    ∙ sym (plan_at c.args.code c.args.e.now c.args.first k _ (ap out-Expr c.in-If.is ∙ outs-If _ _ _)))

pub returns-in_ok-push-in-Match : goal.returns-in_ok-push-in-Match
returns-in_ok-push-in-Match c =
    let k = left c.args.code c.args.todo.now in
    left_pushed2 c.args.code c.push-in-Match-2.result c.args.todo.now c.push-in-Match.new.self
    c.push-in-Match-2.new.self _ _ _
    c.in_ok-push-in-Match.ensures.ok c.push-in-Match-2.ensures.ok
    (ap (λ (z : Expr). evaluate c.args.code z (choose c.args.code c.as_slice-in-Match.result.now c.in-Match.check k))
    c.get-in-Match.ensures
    ∙ ap (λ (z : List Case). evaluate c.args.code c.in-Match.e (choose c.args.code z c.in-Match.check k))
    c.as_slice-in-Match.ensures
    ∙ sym (plan_at c.args.code c.args.e.now c.args.first k _ (ap out-Expr c.in-Match.is ∙ outs-Match _ _ _)))

pub returns-in_ok-push-in-Val : goal.returns-in_ok-push-in-Val
returns-in_ok-push-in-Val c =
    let k = left c.args.code c.args.todo.now in
    left_pushed2 c.args.code c.push-in-Val-2.result c.args.todo.now c.push-in-Val.new.self c.push-in-Val-2.new.self _ _
    _
    c.in_ok-push-in-Val.ensures.ok c.push-in-Val-2.ensures.ok
    (ap (λ (z : Expr). evaluate c.args.code z (let_in c.args.code c.get-in-Val.result.now k)) c.get-in-Val-2.ensures
    ∙ ap (λ (z : Expr). evaluate c.args.code c.in-Val.bound (let_in c.args.code z k)) c.get-in-Val.ensures
    ∙ sym (plan_at c.args.code c.args.e.now c.args.first k _ (ap out-Expr c.in-Val.is ∙ outs-Val _ _)))

pub returns-in_ok-push-in-Assert : goal.returns-in_ok-push-in-Assert
returns-in_ok-push-in-Assert c =
    let k = left c.args.code c.args.todo.now in
    left_pushed2 c.args.code c.push-in-Assert-2.result c.args.todo.now c.push-in-Assert.new.self
    c.push-in-Assert-2.new.self _ _ _
    c.in_ok-push-in-Assert.ensures.ok c.push-in-Assert-2.ensures.ok
    (ap (λ (z : Expr). evaluate c.args.code z (asserted c.args.code c.in-Assert.check c.get-in-Assert.result.now k))
    c.get-in-Assert-2.ensures
    ∙ ap (λ (z : Expr). evaluate c.args.code c.in-Assert.c (asserted c.args.code c.in-Assert.check z k))
    c.get-in-Assert.ensures
    ∙ sym (plan_at c.args.code c.args.e.now c.args.first k _ (ap out-Expr c.in-Assert.is ∙ outs-Assert _ _ _)))

pub returns-in_ok-push-in-Call : goal.returns-in_ok-push-in-Call
returns-in_ok-push-in-Call c =
    let k = left c.args.code c.args.todo.now in
    left_pushed2 c.args.code c.push-in-Call-2.result c.args.todo.now c.push-in-Call.new.self c.push-in-Call-2.new.self _
    _ _
    c.in_ok-push-in-Call.ensures.ok c.push-in-Call-2.ensures.ok
    (ap (λ (z : List Expr). evaluate_all c.args.code z
    (call c.args.code c.in-Call.callee c.in-Call.pre c.in-Call.measure
    c.args.first k)) c.as_slice-in-Call.ensures
    ∙ sym (plan_at c.args.code c.args.e.now c.args.first k _ (ap out-Expr c.in-Call.is ∙ outs-Call _ _ _ _)))

pub returns-in-Int : goal.returns-in-Int
returns-in-Int c =
    let k = left c.args.code c.args.todo.now in
    left_pushed c.args.code c.push-in-Int.result c.args.todo.now c.push-in-Int.new.self _ _ c.push-in-Int.ensures.ok
    (sym (plan_at c.args.code c.args.e.now c.args.first k _ (ap out-Expr c.in-Int.is ∙ outs-Int _)))

pub returns-in-Bool : goal.returns-in-Bool
returns-in-Bool c =
    let k = left c.args.code c.args.todo.now in
    left_pushed c.args.code c.push-in-Bool.result c.args.todo.now c.push-in-Bool.new.self _ _ c.push-in-Bool.ensures.ok
    (sym (plan_at c.args.code c.args.e.now c.args.first k _ (ap out-Expr c.in-Bool.is ∙ outs-Bool _)))

pub returns-in-Var : goal.returns-in-Var
returns-in-Var c =
    let k = left c.args.code c.args.todo.now in
    left_pushed c.args.code c.push-in-Var.result c.args.todo.now c.push-in-Var.new.self _ _ c.push-in-Var.ensures.ok
    (sym (plan_at c.args.code c.args.e.now c.args.first k _ (ap out-Expr c.in-Var.is ∙ outs-Var _)))

use Rattle.std.proofs.Common.{rules, ◌≡◌, ◌∙◌, ◌++◌, ◌∷◌, Err, [], ap, length, map, sym}
use Rattle.pp_fault.proofs.Parts.{goes, stops_as, tells_along}
use Rattle.pp_generic.specs.Expected.{expect}
use Rattle.pp_rules.specs.Elab.{finished, name_at, started, taken}
use Rattle.pp_tree.specs.Shown.{tree_of, type_of, type_trees}
use Rattle.pp_typing.proofs.Applied.{applied_args, applied_arity, applied_start, arguments_stop, arguments_turn}
use Rattle.pp_typing.proofs.Cases.{cases_stop, cases_turn}
use Rattle.pp_typing.proofs.Told.{both_along}
use Rattle.pp_typing.proofs.Turns.{first_stops}
use Rattle.pp_typing.specs.Views.{args_typing, env_of, part_typing, scope_of, typing}
use Rattle.pp_typing.proofs.expr.+typing.Goals as goal

pub application-returns-then-es-len-clause-told : goal.application-returns-then-es-len-clause-told
application-returns-then-es-len-clause-told t c =
    let f = sym c.in_ok-callee.ensures ∙ c.in-Some.is in
    tells_along c.flaw-then-es-len.result _ _
    (applied_arity c.args.context.now c.args.scope.now c.args.at c.args.expected.now c.args.name.now c.args.types.now
    c.args.es.now
    c.in-Some.callee f (λ e. c.if-es-len.true (e ∙ sym c.len.ensures)))
    c.flaw-then-es-len.ensures

pub application-returns-in_err-found-clause-told : goal.application-returns-in_err-found-clause-told
application-returns-in_err-found-clause-told t c =
    let env = env_of c.args.context.now in
    let f = sym c.in_ok-callee.ensures ∙ c.in-Some.is in
    let stopped : c.from_residual-in_err-found.result ≡ Err c.in_err-found.field-0.0 = search rules in
    stops_as c.from_residual-in_err-found.result c.in_err-found.field-0.0
    (started env c.args.at c.args.expected.now c.args.name.now (type_trees
    (map type_of c.args.types.now)) c.in-Some.callee) _ _ stopped
    (applied_start c.args.context.now c.args.scope.now c.args.at c.args.expected.now c.args.name.now c.args.types.now
    c.args.es.now
    c.in-Some.callee f (c.if-es-len.false ∙ c.len.ensures))
    c.in_err-found.ensures

pub application-returns-in_err-args-clause-told : goal.application-returns-in_err-args-clause-told
application-returns-in_err-args-clause-told t c =
    let env = env_of c.args.context.now in
    let f = sym c.in_ok-callee.ensures ∙ c.in-Some.is in
    let stopped : c.from_residual-in_err-args.result ≡ Err c.in_err-args.field-0.0 = search rules in
    first_stops c.from_residual-in_err-args.result c.in_err-args.field-0.0 c.arguments.new.found
    (args_typing c.args.context.now c.args.scope.now [] c.args.es.now c.as_slice.result.now c.in_ok-found.found) _
    (finished env c.args.at c.args.expected.now c.args.name.now c.in-Some.callee) stopped
    (applied_args c.args.context.now c.args.scope.now c.args.at c.args.expected.now c.args.name.now c.args.types.now
    c.args.es.now
    c.in-Some.callee f c.in_ok-found.found c.as_slice.result.now (c.if-es-len.false
    ∙ c.len.ensures) c.in_ok-found.ensures c.as_slice.ensures)
    c.in_err-args.ensures.told

pub application-returns-clause-told : goal.application-returns-clause-told
application-returns-clause-told t c =
    let env = env_of c.args.context.now in
    let f = sym c.in_ok-callee.ensures ∙ c.in-Some.is in
    tells_along c.finished.result _ _
    (applied_args c.args.context.now c.args.scope.now c.args.at c.args.expected.now c.args.name.now c.args.types.now
    c.args.es.now
    c.in-Some.callee f c.in_ok-found.found c.as_slice.result.now (c.if-es-len.false
    ∙ c.len.ensures) c.in_ok-found.ensures c.as_slice.ensures
    ∙ goes (args_typing c.args.context.now c.args.scope.now [] c.args.es.now c.as_slice.result.now c.in_ok-found.found)
    (finished env c.args.at c.args.expected.now c.args.name.now c.in-Some.callee)
    (c.in_ok-args.args, c.arguments.new.found) c.in_ok-args.ensures.told)
    c.finished.ensures

pub argument-returns-clause-told : goal.argument-returns-clause-told
argument-returns-clause-told t c =
    let env = env_of c.args.context.now in
    let sc = c.args.scope.now in
    let tree = tree_of c.args.e.now in
    let k = c.depth-inner.ensures ∙ ap (λ l. length (scope_of l)) c.as_slice.ensures in
    let x = c.in_ok-wanted.ensures ∙ ap (λ l. expect l c.args.param.now) c.as_slice-2.ensures in
    let part = ap (λ n. typing c.args.context.now sc n (expect c.args.found.now c.args.param.now) tree) (sym k)
    ∙ ap (λ y. typing c.args.context.now sc c.depth-inner.result y tree) (sym x) ∙ c.in_ok-arg.ensures.told in
    both_along c.taken.result c.taken.new.found _ _
    (goes (part_typing c.args.context.now sc (expect c.args.found.now c.args.param.now) tree)
    (taken env c.args.param.now (name_at env tree) c.args.found.now) c.in_ok-arg.arg part
    ∙ ap (λ n. taken env c.args.param.now n c.args.found.now c.in_ok-arg.arg) (sym c.name_at.ensures))
    c.taken.ensures

pub arguments-returns-in_err-arg-clause-told : goal.arguments-returns-in_err-arg-clause-told
arguments-returns-in_err-arg-clause-told t c =
    let stopped : c.from_residual.result ≡ Err c.in_err-arg.field-0.0 = search rules in
    arguments_stop c.args.context.now c.args.scope.now c.loop-i.scope _ c.args.es.now c.args.params.now c.loop-i.i _
    c.index-params-i.result
    c.loop-i.done c.loop-i.found c.argument.new.found c.requires c.loop-i-test.true c.index-params-i.is
    c.loop-i.invariant.1 c.loop-i.invariant.0
    c.from_residual.result c.in_err-arg.field-0.0 c.argument.new.found stopped c.in_err-arg.ensures.told

pub arguments-loop-i-preserved : goal.arguments-loop-i-preserved
arguments-loop-i-preserved t c =
    let same = c.loop-i.invariant.1 in
    let rest = arguments_turn c.args.context.now c.args.scope.now c.loop-i.scope _ c.args.es.now c.args.params.now
    c.loop-i.i _ c.index-params-i.result
    c.loop-i.done c.loop-i.found c.argument.new.found c.requires c.loop-i-test.true c.index-params-i.is same
    c.loop-i.invariant.0
    c.in_ok-arg.arg c.push.new.self (c.in_ok-push.ensures.ok ∙ ap (λ a. c.loop-i.done ++ a ∷ []) c.into_inner.ensures)
    c.in_ok-arg.ensures.told in
    (rest, c.in_ok-arg.ensures.kept ∙ same)

pub arms-returns-in_err-arm-clause-told : goal.arms-returns-in_err-arm-clause-told
arms-returns-in_err-arm-clause-told t c =
    let stopped : c.from_residual.result ≡ Err c.in_err-arm.field-0.0 = search rules in
    cases_stop c.args.context.now c.args.scope.now c.loop-i.scope c.args.expected.now c.args.sort.now _
    c.args.cases.now c.loop-i.i _ c.loop-i.done
    c.as_slice.result.now c.loop-i-test.true c.loop-i.invariant.1 c.as_slice.ensures c.loop-i.invariant.0
    c.from_residual.result c.in_err-arm.field-0.0 stopped c.in_err-arm.ensures.told

pub arms-loop-i-preserved : goal.arms-loop-i-preserved
arms-loop-i-preserved t c =
    let same = c.loop-i.invariant.1 in
    let rest = cases_turn c.args.context.now c.args.scope.now c.loop-i.scope c.args.expected.now c.args.sort.now _
    c.args.cases.now c.loop-i.i _ c.loop-i.done
    c.as_slice.result.now c.loop-i-test.true same c.as_slice.ensures c.loop-i.invariant.0
    c.in_ok-arm.arm c.push.new.self (c.in_ok-push.ensures.ok ∙ ap (λ a. c.loop-i.done ++ a ∷ []) c.into_inner.ensures)
    c.in_ok-arm.ensures.told in
    (rest, c.in_ok-arm.ensures.kept ∙ same)

use Rattle.std.proofs.Common.{◌∙◌, ◌<◌, ap, arith, length, refl, sym}
use Rattle.std.proofs.lemmas.List.{get_or_default}
use Rattle.std.proofs.lemmas.Result.{IfOk-weaker}
use Rattle.pp_prog.specs.declared.expr.Pattern.TheVariants.{Bind, Ctor}
use Rattle.pp_store.specs.Values.{value_of}
use Rattle.pp_stack.proofs.Fitting.{adds_bind, adds_bool, adds_fields, adds_int, adds_no_fields, adds_no_tree}
use Rattle.pp_stack.proofs.Fitting.{fitting_fails, fitting_more, fitting_uneven}
use Rattle.pp_stack.proofs.fit.+fit.Goals as goal

pub bind-returns-in_ok-push-in-Bind-clause-bound :
    goal.bind-returns-in_ok-push-in-Bind-clause-bound
bind-returns-in_ok-push-in-Bind-clause-bound t c =
    IfOk-weaker c.bind.result _ _
    (λ fits adds. adds_bind c.args.store.now c.args.env.now c.args.pattern.now (value_of c.args.store.now c.args.held)
    c.get.result.now c.args.held c.push.new.self c.bind.new.env fits
    (c.in-Bind.is ∙ ap Bind (sym c.get.ensures)) c.requires.one refl
    c.in_ok-push-in-Bind.ensures.ok adds)
    c.bind.ensures.bound

pub bind-returns-in-Int-clause-bound : goal.bind-returns-in-Int-clause-bound
bind-returns-in-Int-clause-bound t c =
    adds_int c.args.store.now c.args.env.now c.args.pattern.now (value_of c.args.store.now c.args.held) c.in-Int.n
    c.is_number.result c.in-Int.is c.is_number.ensures

pub bind-returns-in-Bool-clause-bound : goal.bind-returns-in-Bool-clause-bound
bind-returns-in-Bool-clause-bound t c =
    adds_bool c.args.store.now c.args.env.now c.args.pattern.now (value_of c.args.store.now c.args.held) c.in-Bool.a
    c.is_truth.result c.in-Bool.is c.is_truth.ensures

pub bind-returns-then-c-parts-clause-bound : goal.bind-returns-then-c-parts-clause-bound
bind-returns-then-c-parts-clause-bound t c =
    IfOk-weaker c.bind_fields.result _ _
    (λ fits adds. adds_fields c.args.store.now c.args.env.now c.args.pattern.now
    (value_of c.args.store.now c.args.held) c.in-Ctor.c c.as_slice.result.now
    (c.in-Ctor.is ∙ ap (Ctor c.in-Ctor.c) (sym c.as_slice.ensures)) c.in-Tree.parts.ctor
    c.in-Tree.parts.fields.now c.bind_fields.new.env fits c.in-Tree.ensures.0 c.if-c-parts.true adds)
    c.bind_fields.ensures.bound

pub bind-returns-else-c-parts-clause-bound : goal.bind-returns-else-c-parts-clause-bound
bind-returns-else-c-parts-clause-bound t c =
    adds_no_fields c.args.store.now c.args.env.now c.args.pattern.now (value_of c.args.store.now c.args.held)
    c.in-Ctor.c c.in-Ctor.patterns c.in-Ctor.is c.in-Tree.parts.ctor c.in-Tree.parts.fields.now c.in-Tree.ensures.0
    c.if-c-parts.false

pub bind-returns-in_default : goal.bind-returns-in_default
bind-returns-in_default t c =
    record {
      held = c.requires.all;
      bound = adds_no_tree c.args.store.now c.args.env.now c.args.pattern.now
          (value_of c.args.store.now c.args.held) c.in-Ctor.c c.in-Ctor.patterns c.in-Ctor.is c.look_at.result
          c.look_at.ensures c.in_default.not-Tree;
    }

pub bind_fields-returns-then-patterns-helds-clause-bound :
    goal.bind_fields-returns-then-patterns-helds-clause-bound
bind_fields-returns-then-patterns-helds-clause-bound t c =
    fitting_uneven c.args.store.now c.args.patterns.now c.args.helds.now c.args.env.now c.if-patterns-helds.true

pub bind_fields-returns-then-not-branch-clause-bound :
    goal.bind_fields-returns-then-not-branch-clause-bound
bind_fields-returns-then-not-branch-clause-bound t c =
    let also : c.loop-i.i < length c.args.helds.now =
    omega (arith, c.loop-i-test.true, c.if-patterns-helds.false) in
    fitting_fails c.args.store.now c.args.patterns.now c.args.helds.now c.loop-i.i c.args.env.now c.loop-i.env
    c.bind.new.env c.loop-i.invariant c.index-patterns-i.result _ c.loop-i-test.true also c.index-patterns-i.is
    (get_or_default c.args.helds.now c.loop-i.i _ _ also) c.in_ok-bind.field-0 c.in_ok-bind.ensures.bound
    c.if-not-branch.true

pub bind_fields-loop-i-preserved : goal.bind_fields-loop-i-preserved
bind_fields-loop-i-preserved t c =
    let also : c.loop-i.i < length c.args.helds.now =
    omega (arith, c.loop-i-test.true, c.if-patterns-helds.false) in
    fitting_more c.args.store.now c.args.patterns.now c.args.helds.now c.loop-i.i c.args.env.now c.loop-i.env
    c.bind.new.env c.loop-i.invariant c.index-patterns-i.result _ c.loop-i-test.true also c.index-patterns-i.is
    (get_or_default c.args.helds.now c.loop-i.i _ _ also) c.in_ok-bind.field-0 c.in_ok-bind.ensures.bound
    c.in_ok-bind.ensures.held c.if-not-branch.false

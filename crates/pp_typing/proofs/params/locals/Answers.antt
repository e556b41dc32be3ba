use Rattle.std.proofs.Common.{◌∙◌, ap, map, refl, sym}
use Rattle.std.specs.Prelude.{option_copied}
use Rattle.pp_rules.specs.Bodies.{param_scope, typed_params}
use Rattle.pp_tree.specs.Shown.{param_of}
use Rattle.pp_typing.proofs.Parameters.{locals_end, locals_turn}
use Rattle.pp_typing.proofs.params.locals.Goals as goal

pub returns-in_default : goal.returns-in_default
returns-in_default c =
    locals_end c.args.params.now c.args.sorts.now c.loop-i.i
    (param_scope (typed_params (map param_of c.args.params.now) c.args.sorts.now))
    c.loop-i.done (sym c.at.ensures ∙ ap option_copied c.in_default.is) c.loop-i.invariant

pub loop-i-preserved : goal.loop-i-preserved
loop-i-preserved c =
    locals_turn c.args.params.now c.args.sorts.now c.loop-i.i
    (param_scope (typed_params (map param_of c.args.params.now) c.args.sorts.now))
    c.loop-i.done c.push.new.self _ _ c.in-Some.sort.now c.loop-i-test.true
    (sym c.at.ensures ∙ ap option_copied c.in-Some.is) c.loop-i.invariant c.in_ok-push.ensures.ok refl
    c.in_ok-of.ensures

use Rattle.std.proofs.Common.{◌∙◌, ap, map, sym}
use Rattle.std.specs.Prelude.{option_copied}
use Rattle.pp_rules.specs.Bodies.{typed_params}
use Rattle.pp_tree.specs.Shown.{param_of}
use Rattle.pp_typing.proofs.Parameters.{params_end, params_turn}
use Rattle.pp_typing.proofs.params.params.Goals as goal

pub returns-in_default : goal.returns-in_default
returns-in_default c =
    params_end c.args.params.now c.args.sorts.now c.loop-i.i (typed_params
    (map param_of c.args.params.now) c.args.sorts.now)
    c.loop-i.done (sym c.at.ensures ∙ ap option_copied c.in_default.is) c.loop-i.invariant

pub loop-i-preserved : goal.loop-i-preserved
loop-i-preserved c =
    params_turn c.args.params.now c.args.sorts.now c.loop-i.i (typed_params
    (map param_of c.args.params.now) c.args.sorts.now)
    c.loop-i.done c.push.new.self _ c.in_ok-name.name c.in_ok-of.of c.in-Some.sort.now c.loop-i-test.true
    (sym c.at.ensures ∙ ap option_copied c.in-Some.is) c.loop-i.invariant c.in_ok-name.ensures c.in_ok-of.ensures
    c.in_ok-push.ensures.ok

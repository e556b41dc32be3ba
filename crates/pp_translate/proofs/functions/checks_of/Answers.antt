use Rattle.pp_prog.specs.declared.check.CheckKind.TheVariants.{Precondition}
use Rattle.pp_translation.specs.declared.frame.CheckAt.{CheckAt}
use Rattle.pp_translate.proofs.Numbering.{checks_turn}
use Rattle.pp_translate.proofs.functions.checks_of.Goals as goal

abbrev none : CheckAt
none = record { function = 0; kind = Precondition; source = 0; at = 0 }

pub loop-i-preserved : goal.loop-i-preserved
loop-i-preserved c =
    checks_turn c.args.texts.now c.args.checks.now c.loop-i.i none c.loop-i.done c.push.new.self c.place_at.result
    c.loop-i-test.true c.loop-i.invariant
    c.place_at.ensures c.in_ok-push.ensures.ok

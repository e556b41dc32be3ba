use Rattle.std.proofs.Common.{◌≡◌, ◌∙◌, true, false, sym}
use Rattle.pp_prog.specs.Calls.{OneGroup}
use Rattle.pp_checks.proofs.Ruling.{none_more, none_of_all}
use Rattle.pp_checks.proofs.rules.calls_into.Goals as goal

pub loop-g-preserved : goal.loop-g-preserved
loop-g-preserved c =
    none_more (OneGroup c.args.program.now.functions c.args.f.0) c.args.called.now c.loop-g.g-index
    c.loop-g-test.true (λ s. let no : false ≡ true = sym c.if-is_alike.false
    ∙ c.is_alike.ensures.1 s in cc) c.loop-g.invariant

pub returns : goal.returns
returns c =
    none_of_all c.args.program.now.functions c.args.f.0 c.loop-g.g-index c.args.called.now c.loop-g-test.false
    c.loop-g.invariant

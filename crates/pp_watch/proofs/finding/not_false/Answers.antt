use Rattle.std.proofs.Common.{sym, ◌∙◌}
use Rattle.pp_trail.specs.Trail.{lits}
use Rattle.pp_watch.proofs.Literals.{negated_more, negated_all}
use Rattle.pp_watch.proofs.finding.not_false.Goals as goal

pub loop-lit-preserved : goal.loop-lit-preserved
loop-lit-preserved c = negated_more
    (lits c.args.trail.now.steps) c.args.clause.now c.loop-lit.lit-index c.lit-item.result c.loop-lit-test.true
    c.lit-item.is c.loop-lit.invariant (sym c.is_false.ensures ∙ c.if-not-is_false.false)

pub returns-clause-none : goal.returns-clause-none
returns-clause-none c = negated_all
    (lits c.args.trail.now.steps) c.args.clause.now c.loop-lit.lit-index c.loop-lit-test.false c.loop-lit.invariant

use Rattle.pp_learn.proofs.MetSeen.{marks_first, marks_more, marks_whole}
use Rattle.pp_learn.proofs.seen.mark_all.Goals as goal

pub loop-lit-init : goal.loop-lit-init
loop-lit-init c = (marks_first c.args.seen.now c.args.clause.now, c.requires.met)

pub loop-lit-preserved : goal.loop-lit-preserved
loop-lit-preserved c = (
  marks_more c.args.seen.now c.loop-lit.seen c.mark.new.seen c.args.clause.now c.loop-lit.lit-index c.lit-item.result
      c.loop-lit-test.true c.lit-item.is c.loop-lit.invariant.0 c.in_ok-mark.ensures.all,
  c.in_ok-mark.ensures.met,
)

pub returns-clause-all : goal.returns-clause-all
returns-clause-all c =
    marks_whole c.args.seen.now c.loop-lit.seen c.args.clause.now c.loop-lit.lit-index c.loop-lit-test.false
    c.loop-lit.invariant.0

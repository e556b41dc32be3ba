use Rattle.std.proofs.Common.{ap, ◌∙◌}
use Rattle.pp_clause.specs.Clause.{has}
use Rattle.pp_watch.proofs.Literals.{has_item}
use Rattle.pp_watch.proofs.finding.latest_other.Goals as goal
use Rattle.pp_watch.proofs.finding.latest_other.Goals.{then-index+in-Some+then-greatest-place}
use Rattle.pp_watch.proofs.finding.latest_other.Goals.{then-index+in-Some+else-greatest-place, then-index+in_default}
use Rattle.pp_watch.proofs.finding.latest_other.Goals.{else-index}

pub loop-other-preserved : goal.loop-other-preserved
loop-other-preserved c = elim c.if-index.branch [
  | then-index+in-Some+then-greatest-place w ↦ ap (has c.args.clause.now) w.latest-is
      ∙ has_item c.args.clause.now c.loop-other.other-index c.other-item.result c.loop-other-test.true
      c.other-item.is
  | then-index+in-Some+else-greatest-place w ↦ ap (has c.args.clause.now) w.latest-is ∙ c.loop-other.invariant
  | then-index+in_default w ↦ ap (has c.args.clause.now) w.latest-is ∙ c.loop-other.invariant
  | else-index w ↦ ap (has c.args.clause.now) w.latest-is ∙ c.loop-other.invariant
]

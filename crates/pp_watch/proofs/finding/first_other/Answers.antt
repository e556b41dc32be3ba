use Rattle.std.proofs.Common.{sym, ◌∙◌}
use Rattle.pp_trail.specs.Trail.{lits}
use Rattle.pp_trail.proofs.Truths.{same_code}
use Rattle.pp_watch.proofs.Literals.{others_none, others_more, others_all}
use Rattle.pp_watch.proofs.finding.first_other.Goals as goal
use Rattle.pp_watch.proofs.finding.first_other.Goals.{else-index-via-then-index+else-not-is_false}
use Rattle.pp_watch.proofs.finding.first_other.Goals.{else-index-via-else-index}

pub loop-place-init : goal.loop-place-init
loop-place-init c = others_none (lits c.args.trail.now.steps) c.args.lit c.args.part.now

pub loop-place-preserved : goal.loop-place-preserved
loop-place-preserved c = others_more
    (lits c.args.trail.now.steps) c.args.part.now c.loop-place.place c.index-part-place.result c.args.lit
    c.loop-place-test.true c.index-part-place.is c.loop-place.invariant
    (elim c.else-index.branch [
      | else-index-via-then-index+else-not-is_false w ↦ λ ne. sym w.is_false.ensures ∙ w.if-not-is_false.false
      | else-index-via-else-index w ↦ λ ne. absurd
          (ne (same_code c.index-part-place.result c.args.lit
          (sym c.index.ensures ∙ w.if-index.false ∙ c.index-index.ensures)))
    ])

pub returns-clause-none : goal.returns-clause-none
returns-clause-none c = others_all (lits c.args.trail.now.steps) c.args.part.now c.loop-place.place
    c.args.lit c.loop-place-test.false c.loop-place.invariant

use Rattle.std.proofs.Common.{ap, sym, ◌∙◌, get_or}
use Rattle.std.proofs.lemmas.List.{get_or_default}
use Rattle.pp_clause.specs.Literal.{opposite}
use Rattle.pp_trail.specs.declared.step.Step.{Step}
use Rattle.pp_trail.specs.Trail.{lits}
use Rattle.pp_learn.proofs.MetSeen.{gathers_skip, gathers_more, gathers_all}
use Rattle.pp_learn.proofs.Places.{read_at}
use Rattle.pp_learn.proofs.collecting.collect.Goals as goal
use Rattle.pp_learn.proofs.collecting.collect.Goals.{in-Some+in_ok-push, in_default}

pub loop-var-preserved : goal.loop-var-preserved
loop-var-preserved c =
    let steps = c.args.trail.now in
    let xs = c.args.met.now in
    let i = c.loop-var.var-index in
    let v = get_or xs i 0 in
    let is = get_or_default xs i 0 v c.loop-var-test.true in
    elim c.match-marked_place.branch [
      | in-Some+in_ok-push w ↦ rw (w.found-is, w.in_ok-push.ensures.items)
          (gathers_more _ _ steps c.args.seen.now xs i v w.in-Some.place c.loop-var.found.items
          w.index-trail-place.result w.negated.result
          c.requires.trail c.loop-var-test.true is w.in-Some.ensures.some
          (read_at steps w.in-Some.place w.index-trail-place.result w.in-Some.ensures.some.at.within
          w.index-trail-place.is)
          (w.negated.ensures ∙ ap (λ (z : Step). opposite z.lit) (sym w.index-trail-place.is)) c.loop-var.invariant)
      | in_default w ↦ rw w.found-is
          (gathers_skip steps c.args.seen.now xs i v c.loop-var.found.items c.loop-var-test.true is
          w.in_default.ensures.none c.loop-var.invariant)
    ]

pub returns : goal.returns
returns c = gathers_all c.args.seen.now (lits c.args.trail.now) c.args.met.now c.loop-var.var-index
    c.loop-var.found.items c.loop-var-test.false c.requires.met c.loop-var.invariant

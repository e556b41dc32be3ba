use Rattle.std.proofs.Common.{arith, get_or, ◌+◌}
use Rattle.std.proofs.lemmas.List.{get_or_default}
use Rattle.pp_learn.proofs.MetSeen.{follows_none, follows_skip, follows_more, follows_all, marked_at}
use Rattle.pp_learn.proofs.collecting.back_to.Goals as goal
use Rattle.pp_learn.proofs.collecting.back_to.Goals.{in-Some+then-place-end+then-back-place, in-Some+else-place-end}
use Rattle.pp_learn.proofs.collecting.back_to.Goals.{else-place-end-via-then-place-end+else-back-place}
use Rattle.pp_learn.proofs.collecting.back_to.Goals.{else-place-end-via-else-place-end, in_default}

pub loop-var-init : goal.loop-var-init
loop-var-init c = follows_none c.args.trail.now c.args.seen.now c.args.end c.args.met.now

pub loop-var-preserved : goal.loop-var-preserved
loop-var-preserved c =
    let steps = c.args.trail.now in
    let xs = c.args.met.now in
    let i = c.loop-var.var-index in
    let v = get_or xs i 0 in
    let is = get_or_default xs i 0 v c.loop-var-test.true in
    elim c.match-marked_place.branch [
      | in-Some+then-place-end+then-back-place w ↦ rw w.back-is
          (follows_more _ _ steps c.args.seen.now c.args.end xs i v w.in-Some.place c.loop-var.back
          (w.in-Some.place + 1)
          c.requires.trail c.loop-var-test.true is w.in-Some.ensures.some (omega (arith, w.if-back-place.true))
          (omega (arith, w.if-place-end.true))
          (λ lt. omega arith) (λ n e. marked_at steps c.args.seen.now v w.in-Some.place n w.in-Some.ensures.some
          (omega arith)) c.loop-var.invariant)
      | in-Some+else-place-end w ↦ rw w.back-is
          (follows_more _ _ steps c.args.seen.now c.args.end xs i v w.in-Some.place c.loop-var.back c.loop-var.back
          c.requires.trail c.loop-var-test.true is w.in-Some.ensures.some (omega arith) c.loop-var.invariant.within
          (λ lt. elim w.else-place-end.branch [
            | else-place-end-via-then-place-end+else-back-place u ↦ omega (arith, u.if-back-place.false)
            | else-place-end-via-else-place-end u ↦ absurd (omega (arith, u.if-place-end.false))
          ]) c.loop-var.invariant.last c.loop-var.invariant)
      | in_default w ↦ rw w.back-is
          (follows_skip steps c.args.seen.now c.args.end xs i v c.loop-var.back c.loop-var-test.true is
          w.in_default.ensures.none c.loop-var.invariant)
    ]

pub returns : goal.returns
returns c = follows_all c.args.trail.now c.args.seen.now c.args.end c.args.met.now c.loop-var.var-index c.loop-var.back
    c.loop-var-test.false c.requires.met c.loop-var.invariant

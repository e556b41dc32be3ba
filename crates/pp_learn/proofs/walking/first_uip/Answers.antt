use Rattle.std.proofs.Common.{ℕ, ◌≡◌, arith, length, subst}
use Rattle.pp_learn.specs.Seen.{FitAll}
use Rattle.pp_learn.proofs.Reasons.{trail_fits}
use Rattle.pp_learn.specs.Reached.{IsTrailFor}
use Rattle.pp_learn.proofs.FirstPoint.{two_open, before_more, seeks_on}
use Rattle.pp_learn.proofs.walking.first_uip.Goals as goal

pub last_marked-requires-clause-fits : goal.last_marked-requires-clause-fits
last_marked-requires-clause-fits c = trail_fits c.args.clauses.now c.args.trail.now c.args.seen.now c.requires.trail

pub marked_before-requires-clause-fits : goal.marked_before-requires-clause-fits
marked_before-requires-clause-fits c =
    let same : length c.args.seen.now ≡ length c.loop-below.seen = omega (arith, c.loop-below.auto.seen) in
    subst (λ (n : ℕ). FitAll n c.args.trail.now) same (trail_fits c.args.clauses.now c.args.trail.now c.args.seen.now
    c.requires.trail)

pub last_marked-requires-in-Some-clause-fits : goal.last_marked-requires-in-Some-clause-fits
last_marked-requires-in-Some-clause-fits c =
    let same : length c.args.seen.now ≡ length c.resolve.new.seen =
    omega (arith, c.loop-below.auto.seen, c.resolve.auto.seen) in
    subst (λ (n : ℕ). FitAll n c.args.trail.now) same (trail_fits c.args.clauses.now c.args.trail.now c.args.seen.now
    c.requires.trail)

pub loop-below-preserved : goal.loop-below-preserved
loop-below-preserved c =
    let below = c.in-Some.ensures.some in
    let next = rw c.unwrap-place-in-Some.ensures at c.last_marked-in-Some.ensures.some in
    let trail : IsTrailFor c.args.clauses.now c.args.trail.now c.loop-below.seen =
    rw c.loop-below.auto.seen c.requires.trail in
    record {
      reached = c.in_ok-resolve.ensures.reached;
      seeks = seeks_on c.args.trail.now c.loop-below.seen c.resolve.new.seen c.args.start c.loop-below.other
          c.in-Some.below c.loop-below.place
          c.unwrap-place-in-Some.result c.loop-below.invariant.seeks below c.in_ok-resolve.ensures.turns next;
      met = c.in_ok-resolve.ensures.met;
      first = before_more c.args.clauses.now _ c.loop-below.chain.items c.resolve.new.chain.items c.unwrap-reason.result
          c.in_ok-resolve.ensures.chain c.loop-below.invariant.first
          (two_open c.args.clauses.now c.args.trail.now c.loop-below.seen c.loop-below.chain.items c.args.start
          c.in-Some.below c.loop-below.place
          trail c.loop-below.invariant.reached below.marked c.loop-below.invariant.seeks.here below.low below.high);
    }

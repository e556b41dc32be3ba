use Rattle.std.proofs.Common.{arith}
use Rattle.pp_learn.proofs.Places.{read_at}
use Rattle.pp_learn.proofs.Reasons.{trail_fits}
use Rattle.pp_learn.proofs.minimizing.minimize.Goals as goal

pub bounds-seen-var : goal.bounds-seen-var
bounds-seen-var c =
    let at = read_at c.args.trail.now c.args.place c.index-trail-place.result c.requires.within
    c.index-trail-place.is in
    let fit = (trail_fits c.args.clauses.now c.args.trail.now c.args.seen.now c.requires.trail).fit c.args.place
    c.index-trail-place.result at in
    omega arith

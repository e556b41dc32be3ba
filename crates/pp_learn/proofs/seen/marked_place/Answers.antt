use Rattle.std.proofs.Common.{arith}
use Rattle.pp_learn.proofs.MetSeen.{place_marked, place_none}
use Rattle.pp_learn.proofs.seen.marked_place.Goals as goal

pub returns-in-Some-clause-some : goal.returns-in-Some-clause-some
returns-in-Some-clause-some c =
    place_marked c.args.trail.now c.args.places.now c.args.seen.now c.args.var c.in-Some.mark c.requires.places
    (omega (arith, c.requires.every, c.requires.var)) c.in-Some.is c.if-not-seen-var.false

pub returns-in-None-clause-none : goal.returns-in-None-clause-none
returns-in-None-clause-none c =
    place_none c.args.trail.now c.args.places.now c.args.seen.now c.args.var c.requires.places
    (omega (arith, c.requires.every, c.requires.var)) c.in-None.is

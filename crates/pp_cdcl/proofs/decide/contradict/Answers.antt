use Rattle.std.proofs.Common.{arith}
use Rattle.pp_cdcl.proofs.Moves.{place_up_to, place_absent, assumed_decided, false_decided}
use Rattle.pp_cdcl.proofs.decide.contradict.Goals as goal

pub decide-requires-clause-up_to : goal.decide-requires-clause-up_to
decide-requires-clause-up_to c = rw c.undo.ensures (place_up_to _ _ _ _ c.args.place c.trail.ensures.trail
    c.requires.place)

pub decide-requires-clause-absent : goal.decide-requires-clause-absent
decide-requires-clause-absent c = rw c.undo.ensures (place_absent _ _ _ _ c.args.place c.trail.ensures.trail
    c.requires.place)

pub refute-requires-clause-assumed : goal.refute-requires-clause-assumed
refute-requires-clause-assumed c =
    let w = c.requires.place.stands.within in
    rw (c.decide.ensures.value, c.undo.ensures)
    (assumed_decided _ _ c.args.place c.args.lit c.requires.assumed (omega arith) c.requires.missing.held)

pub refute-requires-clause-conflict : goal.refute-requires-clause-conflict
refute-requires-clause-conflict c =
    rw (c.decide.ensures.value, c.undo.ensures)
    (false_decided _ c.args.search.now.watch.vars _ c.args.place _ c.args.lit c.trail.ensures.trail
    (rw c.trail.ensures.value at c.reason_at-reason.ensures))

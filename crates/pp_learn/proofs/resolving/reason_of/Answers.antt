use Rattle.pp_learn.proofs.Reasons.{reason_numbered, reason_forces, reason_fits}
use Rattle.pp_learn.proofs.resolving.reason_of.Goals as goal

pub get-requires-clause-low : goal.get-requires-clause-low
get-requires-clause-low c = (reason_numbered c.args.clauses.now c.args.trail.now c.args.seen.now c.args.place
    c.args.reason c.requires.trail c.requires.reason).0

pub get-requires-clause-high : goal.get-requires-clause-high
get-requires-clause-high c = (reason_numbered c.args.clauses.now c.args.trail.now c.args.seen.now c.args.place
    c.args.reason c.requires.trail c.requires.reason).1

pub returns-clause-forces : goal.returns-clause-forces
returns-clause-forces c =
    reason_forces c.args.clauses.now c.args.trail.now c.args.seen.now c.args.place c.args.reason c.lits.result.now
    c.get.result.now c.requires.trail c.requires.reason c.get.ensures c.lits.ensures.value c.lits.ensures.order

pub returns-clause-fits : goal.returns-clause-fits
returns-clause-fits c =
    reason_fits c.args.clauses.now c.args.trail.now c.args.seen.now c.args.place c.args.reason c.lits.result.now
    c.requires.trail
    (reason_forces c.args.clauses.now c.args.trail.now c.args.seen.now c.args.place c.args.reason c.lits.result.now
    c.get.result.now c.requires.trail c.requires.reason c.get.ensures c.lits.ensures.value c.lits.ensures.order)

use Rattle.std.proofs.Common.{arith}
use Rattle.pp_trail.proofs.Growing.{few_steps}
use Rattle.pp_cdcl.proofs.Moves.{not_false_before}
use Rattle.pp_cdcl.proofs.analyze.analyze.Goals as goal

pub overflow_cast-start : goal.overflow_cast-start
overflow_cast-start c =
    let few = few_steps _ _ _ c.trail.ensures.trail in
    let small = c.requires.invariant.small in
    let within = c.requires.own.last.decision.stands.within in
    omega arith

pub learn-requires-clause-later : goal.learn-requires-clause-later
learn-requires-clause-later c =
    let last = c.requires.own.last in
    rw (c.clauses.ensures.value, c.trail.ensures.value)
    (not_false_before _ _ _ (c.requires.invariant.layered.closed c.args.start last.step last.decision))

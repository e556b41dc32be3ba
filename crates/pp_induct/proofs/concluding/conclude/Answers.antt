use Rattle.pp_induct.proofs.Valid.{valid_are_good}
use Rattle.pp_induct.proofs.concluding.conclude.Goals as goal

pub returns-clause-valid : goal.returns-clause-valid
returns-clause-valid c =
    valid_are_good c.args.program.now c.args.ends.now c.requires.ends 12 c.requires.supported.0 c.requires.supported.3
    c.args.plan.now c.requires.plan c.loop-f.verdicts c.loop-f.invariant.each

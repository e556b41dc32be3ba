use Rattle.std.proofs.Common.{sym}
use Rattle.pp_trail.proofs.Truths.{not_false}
use Rattle.pp_trail.proofs.trail.Trail.is_false.Goals as goal

pub returns-in_default : goal.returns-in_default
returns-in_default c =
    sym (not_false c.truth.result c.args.self.now.steps c.args.lit c.truth.ensures.trail.distinct
    c.truth.ensures.value c.in_default.not-False)

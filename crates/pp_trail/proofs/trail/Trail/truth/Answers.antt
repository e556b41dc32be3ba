use Rattle.std.proofs.Common.{ap, sym, arith}
use Rattle.pp_trail.specs.Trail.{Trail}
use Rattle.pp_trail.proofs.Truths.{past_value}
use Rattle.pp_trail.proofs.trail.Trail.truth.Goals as goal

pub returns-else-index-len-clause-value : goal.returns-else-index-len-clause-value
returns-else-index-len-clause-value c =
    let same = ap (λ (t : Trail). t.steps) c.self.view_is in
    let every = c.self.invariant.every_truth in
    rw (← same) (sym (past_value _ _ _ c.args.lit c.self.invariant.trail (omega arith)))

use Rattle.std.proofs.Common.{ap, sym, arith}
use Rattle.pp_trail.specs.Trail.{Trail}
use Rattle.pp_trail.proofs.Marking.{mark_past}
use Rattle.pp_trail.proofs.trail.Trail.mark.Goals as goal

pub returns-else-var-len-clause-value : goal.returns-else-var-len-clause-value
returns-else-var-len-clause-value c =
    let same = ap (λ (t : Trail). t.steps) c.self.view_is in
    let e = c.self.invariant.every in
    rw (← same) (sym (mark_past _ _ _ c.args.var c.self.invariant.trail (omega arith)))

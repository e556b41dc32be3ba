use Rattle.std.proofs.Common.{ap}
use Rattle.pp_clause.specs.Bound.{IsUpTo}
use Rattle.pp_trail.specs.Trail.{Trail}
use Rattle.pp_trail.proofs.Sound.{sound_add}
use Rattle.pp_trail.proofs.trail.Trail.add.Goals as goal

pub invariant_of-self : goal.invariant_of-self
invariant_of-self c = rw c.in_err-add.ensures.err c.self.invariant

pub invariant_of-self-2 : goal.invariant_of-self-2
invariant_of-self-2 c =
    let same = ap (λ (t : Trail). t.vars) c.self.view_is in
    let up : IsUpTo c.self.inside.vars c.args.clause = rw same c.requires.up_to in
    rw c.in_ok-add.ensures.ok (sound_add _ _ _ _ _ _ c.args.clause c.self.invariant up)

use Rattle.std.proofs.Common.{subst, sym}
use Rattle.pp_instances.specs.Closure.{Distinct}
use Rattle.pp_instances.proofs.Kept.{distinct_with}
use Rattle.pp_instances.proofs.members.Members.insert.Goals as goal

pub invariant_of-self-2 : goal.invariant_of-self-2
invariant_of-self-2 c =
    subst Distinct (sym c.in_ok-insert.ensures.keys)
    (distinct_with c.self.inside.set.keys c.args.member c.self.invariant)

pub returns-clause-once : goal.returns-clause-once
returns-clause-once c =
    subst Distinct (sym c.in_ok-insert.ensures.keys)
    (distinct_with c.self.inside.set.keys c.args.member c.self.invariant)

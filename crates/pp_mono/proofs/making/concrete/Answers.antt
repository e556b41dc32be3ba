use Rattle.pp_members.proofs.Proper.{members_are_proper}
use Rattle.pp_mono.proofs.making.concrete.Goals as goal

pub listed-requires-clause-proper : goal.listed-requires-clause-proper
listed-requires-clause-proper c =
    members_are_proper c.typed-typed.result.now c.in_ok-members.members c.typed-typed.ensures.sorted
    c.in_ok-members.ensures.instances

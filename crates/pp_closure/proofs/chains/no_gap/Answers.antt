use Rattle.std.proofs.Common.{ap}
use Rattle.pp_closure.specs.Sums.{whole}
use Rattle.pp_closure.proofs.LinkedOrders.{apart_none}
use Rattle.pp_closure.proofs.chains.no_gap.Goals as goal

pub returns-then-same : goal.returns-then-same
returns-then-same c ρ holds = apart_none _ _ (ap whole (c.same.ensures ρ holds c.if-same.true))

use Rattle.std.proofs.Common.{ap}
use Rattle.pp_closure.specs.Sums.{whole}
use Rattle.pp_closure.proofs.ComparedSums.{sum_less, turned_less}
use Rattle.pp_closure.proofs.offsets.sums.Goals as goal

pub returns-then-same : goal.returns-then-same
returns-then-same c ρ holds one other =
    sum_less _ _ _ _ _ _ one other (ap whole (c.same.ensures ρ holds c.if-same.true))

pub returns-then-same-2 : goal.returns-then-same-2
returns-then-same-2 c ρ holds one other =
    turned_less (whole (ρ c.args.one.sum)) (whole (ρ c.args.one.one)) (whole (ρ c.args.one.other))
    (whole (ρ c.args.other.sum)) (whole (ρ c.args.other.one)) (whole (ρ c.args.other.other)) one other
    (ap whole (c.same-else-same.ensures ρ holds c.if-same-2.true))

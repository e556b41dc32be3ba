use Rattle.std.proofs.Common.{ap}
use Rattle.pp_closure.specs.Sums.{whole}
use Rattle.pp_closure.proofs.ComparedSums.{first_less, part_less, rest_less, second_less}
use Rattle.pp_closure.proofs.offsets.other_parts.Goals as goal

pub returns-then-same : goal.returns-then-same
returns-then-same c ρ holds one other =
    rest_less _ _ _ _ _ _ one other (ap whole (c.same.ensures ρ holds c.if-same.true))

pub returns-then-same-2 : goal.returns-then-same-2
returns-then-same-2 c ρ holds one other =
    part_less _ _ _ _ _ _ one other (ap whole (c.same-else-same.ensures ρ holds c.if-same-2.true))

pub returns-then-same-3 : goal.returns-then-same-3
returns-then-same-3 c ρ holds one other =
    first_less _ _ _ _ _ _ one other (ap whole (c.same-else-same-2.ensures ρ holds c.if-same-3.true))

pub returns-then-same-4 : goal.returns-then-same-4
returns-then-same-4 c ρ holds one other =
    second_less _ _ _ _ _ _ one other (ap whole (c.same-else-same-3.ensures ρ holds c.if-same-4.true))

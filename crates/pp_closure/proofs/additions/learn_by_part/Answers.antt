use Rattle.pp_closure.proofs.AddedNumbers.{same_other, same_sum}
use Rattle.pp_closure.proofs.additions.learn_by_part.Goals as goal

pub returns-then-same : goal.returns-then-same
returns-then-same c ρ one it like holds =
    c.unite.ensures ρ (same_sum ρ c.args.it c.args.like it like one (c.same.ensures ρ holds c.if-same.true)) holds

pub returns-then-same-2 : goal.returns-then-same-2
returns-then-same-2 c ρ one it like holds =
    c.unite-then-same-2.ensures ρ
    (same_other ρ c.args.it c.args.like it like one (c.same-else-same.ensures ρ holds c.if-same-2.true)) holds

use Rattle.pp_closure.proofs.AddedNumbers.{same_one}
use Rattle.pp_closure.proofs.additions.learn_by_sum.Goals as goal

pub returns-then-same : goal.returns-then-same
returns-then-same c ρ sum it like holds =
    c.unite.ensures ρ (same_one ρ c.args.it c.args.like it like sum (c.same.ensures ρ holds c.if-same.true)) holds

use Rattle.pp_closure.proofs.AddedNumbers.{nothing_added, nothing_left}
use Rattle.pp_closure.proofs.additions.learn_nothing.Goals as goal

pub returns-then-is_zero : goal.returns-then-is_zero
returns-then-is_zero c ρ adds holds =
    c.unite.ensures ρ (nothing_added ρ c.args.it adds (c.is_zero.ensures ρ holds c.if-is_zero.true)) holds

pub returns-then-same : goal.returns-then-same
returns-then-same c ρ adds holds =
    c.learn_number.ensures ρ (nothing_left ρ c.args.it adds (c.same.ensures ρ holds c.if-same.true)) holds

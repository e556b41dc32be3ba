use Rattle.std.proofs.Common.{refl}
use Rattle.pp_closure.specs.Sums.{whole}
use Rattle.pp_closure.proofs.AddedNumbers.{turn_adds, turn_exact}
use Rattle.pp_closure.proofs.additions.turned.Goals as goal

pub returns-clause-adds : goal.returns-clause-adds
returns-clause-adds c ρ adds = turn_adds ρ c.args.it _ refl refl refl adds

pub returns-clause-exact : goal.returns-clause-exact
returns-clause-exact c ρ exact =
    turn_exact ρ (whole (ρ c.args.it.sum)) (whole (ρ c.args.it.one)) (whole (ρ c.args.it.other)) exact

pub returns-clause-back : goal.returns-clause-back
returns-clause-back c ρ exact =
    turn_exact ρ (whole (ρ c.args.it.sum)) (whole (ρ c.args.it.other)) (whole (ρ c.args.it.one)) exact

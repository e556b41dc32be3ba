use Rattle.pp_closure.proofs.Equals.{equal_where}
use Rattle.pp_closure.proofs.equality.learn_united.Goals as goal

pub returns-then-is : goal.returns-then-is
returns-then-is c ρ says holds =
    c.unite.ensures ρ (equal_where _ _ _ _ says (c.is.ensures ρ holds c.if-is.true)) holds

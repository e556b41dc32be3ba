use Rattle.pp_induction.proofs.Ranks.{settled_are_good}
use Rattle.pp_induction.proofs.settled_are_good.Goals as goal

pub returns : goal.returns
returns c = settled_are_good

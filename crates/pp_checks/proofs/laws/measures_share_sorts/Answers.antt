use Rattle.pp_checks.proofs.Plans.{shared_sorts}
use Rattle.pp_checks.proofs.laws.measures_share_sorts.Goals as goal

pub returns : goal.returns
returns c = shared_sorts

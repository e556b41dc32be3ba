use Rattle.pp_checks.proofs.Plans.{lower_called}
use Rattle.pp_checks.proofs.laws.call_lower_ranks.Goals as goal

pub returns : goal.returns
returns c = lower_called

use Rattle.pp_checks.proofs.Plans.{lower_in_contract}
use Rattle.pp_checks.proofs.laws.contracts_call_lower_ranks.Goals as goal

pub returns : goal.returns
returns c = lower_in_contract

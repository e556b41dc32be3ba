use Rattle.pp_demand_steps.proofs.moves_exist.Goals as goal
use Rattle.pp_demand_steps.proofs.Existing.{moves_exist}

pub returns : goal.returns
returns c = moves_exist

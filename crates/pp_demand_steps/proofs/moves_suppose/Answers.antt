use Rattle.pp_demand_steps.proofs.moves_suppose.Goals as goal
use Rattle.pp_demand_steps.proofs.Truths.{moves_suppose}

pub returns : goal.returns
returns c = moves_suppose

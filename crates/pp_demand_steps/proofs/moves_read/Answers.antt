use Rattle.pp_demand_steps.proofs.moves_read.Goals as goal
use Rattle.pp_demand_steps.proofs.Reading.{moves_read}

pub returns : goal.returns
returns c = moves_read

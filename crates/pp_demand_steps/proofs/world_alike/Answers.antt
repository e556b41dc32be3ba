use Rattle.pp_demand_steps.proofs.world_alike.Goals as goal
use Rattle.pp_demand_steps.proofs.Alike.{world_alike}

pub returns : goal.returns
returns c = world_alike

use Rattle.pp_demand_steps.proofs.failing_moves_exist.Goals as goal
use Rattle.pp_demand_steps.proofs.Failing.{failing_moves_exist}

pub returns : goal.returns
returns c = failing_moves_exist

use Rattle.pp_demand_steps.proofs.moves_are_sorted.Goals as goal
use Rattle.pp_demand_steps.proofs.Sorting.{moves_are_sorted}

pub returns : goal.returns
returns c = moves_are_sorted

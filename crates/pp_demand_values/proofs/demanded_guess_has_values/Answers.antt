use Rattle.pp_demand_values.proofs.demanded_guess_has_values.Goals as goal
use Rattle.pp_demand_values.proofs.Failing.{demanded_guess_has_values}

pub returns : goal.returns
returns c = demanded_guess_has_values

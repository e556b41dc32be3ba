use Rattle.pp_steps_gates.proofs.runs_fit_estimates.Goals as goal
use Rattle.pp_steps_gates.proofs.Laws.{runs_fit_estimates}

pub returns : goal.returns
returns c = runs_fit_estimates

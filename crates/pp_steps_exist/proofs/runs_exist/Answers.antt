use Rattle.pp_steps_exist.proofs.runs_exist.Goals as goal
use Rattle.pp_steps_exist.proofs.Laws.{runs_exist}

pub returns : goal.returns
returns c = runs_exist

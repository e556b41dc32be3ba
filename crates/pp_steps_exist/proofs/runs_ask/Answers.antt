use Rattle.pp_steps_exist.proofs.runs_ask.Goals as goal
use Rattle.pp_steps_exist.proofs.Laws.{runs_ask}

pub returns : goal.returns
returns c = runs_ask

use Rattle.pp_steps_exist.proofs.runs_read.Goals as goal
use Rattle.pp_steps_exist.proofs.Laws.{runs_read}

pub returns : goal.returns
returns c = runs_read

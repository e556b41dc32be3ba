use Rattle.pp_steps_run.proofs.tell_runs.Goals as goal
use Rattle.pp_steps_run.proofs.Laws.{tell_runs}

pub returns : goal.returns
returns c = tell_runs

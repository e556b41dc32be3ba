use Rattle.pp_steps_known.proofs.runs_are_known.Goals as goal
use Rattle.pp_steps_known.proofs.Laws.{runs_are_known}

pub returns : goal.returns
returns g c = runs_are_known g.K.Knowledge.known

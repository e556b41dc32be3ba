use Rattle.pp_steps_sorted.proofs.runs_are_sorted.Goals as goal
use Rattle.pp_steps_sorted.proofs.Laws.{runs_are_sorted}

pub returns : goal.returns
returns c = runs_are_sorted

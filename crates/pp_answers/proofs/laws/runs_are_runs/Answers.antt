use Rattle.pp_answers.proofs.Statuses.{runs_are_runs}
use Rattle.pp_answers.proofs.laws.runs_are_runs.Goals as goal

pub returns : goal.returns
returns c = runs_are_runs

use Rattle.pp_run_laws.proofs.Parts.{calls_are_runs}
use Rattle.pp_run_laws.proofs.calls_are_runs.Goals as goal

pub returns : goal.returns
returns c = calls_are_runs

use Rattle.pp_guess_runs.proofs.Truth.{truth_agrees}
use Rattle.pp_guess_runs.proofs.truth_agrees.Goals as goal

pub returns : goal.returns
returns c = truth_agrees

use Rattle.pp_guess_runs.proofs.Truth.{truth_grows}
use Rattle.pp_guess_runs.proofs.truth_grows.Goals as goal

pub returns : goal.returns
returns c = truth_grows

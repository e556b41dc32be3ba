use Rattle.pp_guess_runs.proofs.Sorted.{guesses_keep_sorts}
use Rattle.pp_guess_runs.proofs.guesses_keep_sorts.Goals as goal

pub returns : goal.returns
returns c = guesses_keep_sorts

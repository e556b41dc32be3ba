use Rattle.pp_guess_steps.proofs.guesses_exist.Goals as goal
use Rattle.pp_guess_steps.proofs.Existing.{guesses_exist}

pub returns : goal.returns
returns c = guesses_exist

use Rattle.pp_guess_steps.proofs.guesses_read.Goals as goal
use Rattle.pp_guess_steps.proofs.Existing.{guesses_read}

pub returns : goal.returns
returns c = guesses_read

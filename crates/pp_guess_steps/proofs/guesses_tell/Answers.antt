use Rattle.pp_guess_steps.proofs.guesses_tell.Goals as goal
use Rattle.pp_guess_steps.proofs.Laws.{guesses_tell}

pub returns : goal.returns
returns c = guesses_tell

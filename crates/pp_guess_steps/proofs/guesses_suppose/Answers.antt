use Rattle.pp_guess_steps.proofs.guesses_suppose.Goals as goal
use Rattle.pp_guess_steps.proofs.Laws.{guesses_suppose}

pub returns : goal.returns
returns c = guesses_suppose

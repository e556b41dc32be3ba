use Rattle.pp_guess_gates.proofs.guesses_fit.Goals as goal
use Rattle.pp_guess_gates.proofs.Laws.{guesses_fit}

pub returns : goal.returns
returns c = guesses_fit

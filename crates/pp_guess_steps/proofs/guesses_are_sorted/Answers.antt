use Rattle.pp_guess_steps.proofs.guesses_are_sorted.Goals as goal
use Rattle.pp_guess_steps.proofs.RoundsSorted.{guesses_are_sorted}

pub returns : goal.returns
returns c = guesses_are_sorted

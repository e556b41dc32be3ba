use Rattle.pp_guess_steps.proofs.sorted_guesses_exist.Goals as goal
use Rattle.pp_guess_steps.proofs.SortedValues.{sorted_guesses_exist}

pub returns : goal.returns
returns c = sorted_guesses_exist

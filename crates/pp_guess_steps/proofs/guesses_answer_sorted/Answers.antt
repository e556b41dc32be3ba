use Rattle.pp_guess_steps.proofs.guesses_answer_sorted.Goals as goal
use Rattle.pp_guess_steps.proofs.WorldSorts.{guesses_answer_sorted}

pub returns : goal.returns
returns c = guesses_answer_sorted

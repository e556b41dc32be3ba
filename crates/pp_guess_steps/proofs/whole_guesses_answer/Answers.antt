use Rattle.pp_guess_steps.proofs.whole_guesses_answer.Goals as goal
use Rattle.pp_guess_steps.proofs.Laws.{whole_guesses_answer}

pub returns : goal.returns
returns c = whole_guesses_answer

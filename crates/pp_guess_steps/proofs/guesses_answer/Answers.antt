use Rattle.pp_guess_steps.proofs.guesses_answer.Goals as goal
use Rattle.pp_guess_steps.proofs.SecondHalf.{guesses_answer}

pub returns : goal.returns
returns c = guesses_answer

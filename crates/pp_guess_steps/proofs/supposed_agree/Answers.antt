use Rattle.pp_guess_steps.proofs.supposed_agree.Goals as goal
use Rattle.pp_guess_steps.proofs.Laws.{supposed_agree}

pub returns : goal.returns
returns c = supposed_agree

use Rattle.pp_guess_words.proofs.values_fail.Goals as goal
use Rattle.pp_guess_words.proofs.Failing.{values_fail}

pub returns : goal.returns
returns c = values_fail

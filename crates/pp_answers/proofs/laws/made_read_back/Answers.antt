use Rattle.pp_answers.proofs.Made.{made_read_back}
use Rattle.pp_answers.proofs.laws.made_read_back.Goals as goal

pub returns : goal.returns
returns c = made_read_back

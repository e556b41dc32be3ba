use Rattle.pp_answers.proofs.Claimed.{valid_means_good}
use Rattle.pp_answers.proofs.laws.valid_means_good.Goals as goal

pub returns : goal.returns
returns c = valid_means_good

use Rattle.pp_answers.proofs.Claimed.{open_means_searched}
use Rattle.pp_answers.proofs.laws.open_means_searched.Goals as goal

pub returns : goal.returns
returns c = open_means_searched

use Rattle.pp_answers.proofs.Claimed.{invalid_means_failed}
use Rattle.pp_answers.proofs.laws.invalid_means_failed.Goals as goal

pub returns : goal.returns
returns c = invalid_means_failed

use Rattle.pp_answers.proofs.Statuses.{one_status}
use Rattle.pp_answers.proofs.laws.one_status.Goals as goal

pub returns : goal.returns
returns c = one_status

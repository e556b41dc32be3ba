use Rattle.pp_answers.proofs.Claimed.{one_line_each}
use Rattle.pp_answers.proofs.laws.one_line_each.Goals as goal

pub returns : goal.returns
returns c = one_line_each

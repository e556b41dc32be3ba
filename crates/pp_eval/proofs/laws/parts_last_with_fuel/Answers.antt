use Rattle.pp_eval.proofs.Lasts.{parts_last}
use Rattle.pp_eval.proofs.laws.parts_last_with_fuel.Goals as goal

pub returns : goal.returns
returns c = parts_last

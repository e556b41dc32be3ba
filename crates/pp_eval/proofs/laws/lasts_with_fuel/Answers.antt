use Rattle.pp_eval.proofs.Lasts.{lasts}
use Rattle.pp_eval.proofs.laws.lasts_with_fuel.Goals as goal

pub returns : goal.returns
returns c = lasts

use Rattle.pp_run_laws.proofs.Descent.{measures_end}
use Rattle.pp_run_laws.proofs.measures_end.Goals as goal

pub returns : goal.returns
returns c = measures_end

use Rattle.pp_run_laws.proofs.MeasureSorts.{measures_keep_sorts}
use Rattle.pp_run_laws.proofs.measures_keep_sorts.Goals as goal

pub returns : goal.returns
returns c = measures_keep_sorts

use Rattle.pp_run_laws.proofs.Lasting.{one_fuel_serves}
use Rattle.pp_run_laws.proofs.one_fuel_serves.Goals as goal

pub returns : goal.returns
returns c = one_fuel_serves

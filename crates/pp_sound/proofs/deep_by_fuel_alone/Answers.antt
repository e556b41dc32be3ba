use Rattle.pp_sound.proofs.deep_by_fuel_alone.Goals as goal
use Rattle.pp_sound.proofs.Laws.{deep_by_fuel_alone}

pub returns : goal.returns
returns c = deep_by_fuel_alone

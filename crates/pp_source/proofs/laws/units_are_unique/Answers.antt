use Rattle.pp_source.proofs.Excluded.{units_are_unique}
use Rattle.pp_source.proofs.laws.units_are_unique.Goals as goal

pub returns : goal.returns
returns c = units_are_unique

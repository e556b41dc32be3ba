use Rattle.pp_types_laws.proofs.Placed.{typing_stands}
use Rattle.pp_types_laws.proofs.typings_stand.Goals as goal

pub returns : goal.returns
returns c texts units t o h = typing_stands texts units t o h

use Rattle.pp_types_laws.proofs.Unique.{unique}
use Rattle.pp_types_laws.proofs.typings_are_unique.Goals as goal

pub returns : goal.returns
returns c units t u h k = unique units t u h k

use Rattle.pp_plain_names.proofs.Names.{declared_objects_are_bare}
use Rattle.pp_plain_names.proofs.declared_objects_are_bare.Goals as goal

pub returns : goal.returns
returns c = declared_objects_are_bare

use Rattle.pp_instance_names.proofs.Names.{names_tell_members}
use Rattle.pp_instance_names.proofs.names_tell_members.Goals as goal

pub returns : goal.returns
returns c = names_tell_members

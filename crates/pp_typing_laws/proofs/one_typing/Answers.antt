use Rattle.pp_typing_laws.proofs.Functions.{def_alone}
use Rattle.pp_typing_laws.proofs.one_typing.Goals as goal

pub returns : goal.returns
returns c declared source d s f g a b = def_alone declared source d s f g a b

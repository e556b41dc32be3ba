use Rattle.pp_typing_laws.proofs.Functions.{def_ok, def_is}
use Rattle.pp_typing_laws.proofs.defs_as_ruled.Goals as goal

pub returns : goal.returns
returns c declared source d s f = (def_ok declared source d s f, def_is declared source d s)

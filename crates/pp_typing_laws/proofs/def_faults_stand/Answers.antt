use Rattle.pp_typing_laws.proofs.BodyStands.{def_stands}
use Rattle.pp_typing_laws.proofs.def_faults_stand.Goals as goal

pub returns : goal.returns
returns c declared source d s f h = def_stands declared source d s f h

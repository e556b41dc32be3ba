use Rattle.pp_gate.proofs.Extension.{growth_extends as law}
use Rattle.pp_gate.proofs.laws.growth_extends.Goals as goal

pub returns : goal.returns
returns c = law

use Rattle.pp_legible.proofs.Law.{programs_are_legible}
use Rattle.pp_legible.proofs.programs_are_legible.Goals as goal

pub returns : goal.returns
returns c = programs_are_legible

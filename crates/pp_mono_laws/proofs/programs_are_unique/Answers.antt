use Rattle.pp_mono_laws.proofs.Whole.{programs_are_unique}
use Rattle.pp_mono_laws.proofs.programs_are_unique.Goals as goal

pub returns : goal.returns
returns c = programs_are_unique

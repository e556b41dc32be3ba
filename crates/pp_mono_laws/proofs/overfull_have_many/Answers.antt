use Rattle.pp_mono_laws.proofs.Fills.{overfull_are_many}
use Rattle.pp_mono_laws.proofs.overfull_have_many.Goals as goal

pub returns : goal.returns
returns c = overfull_are_many

use Rattle.pp_legible.proofs.Law.{names_begin_plainly}
use Rattle.pp_legible.proofs.names_begin_plainly.Goals as goal

pub returns : goal.returns
returns c = names_begin_plainly

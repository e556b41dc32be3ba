use Rattle.pp_legible.proofs.Printed.{printed_names_differ}
use Rattle.pp_legible.proofs.printed_names_differ.Goals as goal

pub returns : goal.returns
returns c = printed_names_differ

use Rattle.pp_induct.proofs.Reports.{failing_are_found}
use Rattle.pp_induct.proofs.laws.failing_are_found.Goals as goal

pub returns : goal.returns
returns c = failing_are_found

use Rattle.pp_induct.proofs.Reports.{closed_are_decided}
use Rattle.pp_induct.proofs.laws.closed_are_decided.Goals as goal

pub returns : goal.returns
returns c = closed_are_decided

use Rattle.pp_induct.proofs.Reports.{plain_are_decided}
use Rattle.pp_induct.proofs.laws.plain_are_decided.Goals as goal

pub returns : goal.returns
returns c = plain_are_decided

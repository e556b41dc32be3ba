use Rattle.pp_estimate_laws.proofs.Estimates.{sums_rounds}
use Rattle.pp_estimate_laws.proofs.sums_rounds.Goals as goal

pub returns : goal.returns
returns c = sums_rounds

use Rattle.pp_estimate_laws.proofs.Estimates.{grows_with_rounds}
use Rattle.pp_estimate_laws.proofs.grows_with_rounds.Goals as goal

pub returns : goal.returns
returns c = grows_with_rounds

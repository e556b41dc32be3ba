use Rattle.pp_estimate_laws.proofs.Estimates.{grows_with_depth}
use Rattle.pp_estimate_laws.proofs.grows_with_depth.Goals as goal

pub returns : goal.returns
returns c = grows_with_depth

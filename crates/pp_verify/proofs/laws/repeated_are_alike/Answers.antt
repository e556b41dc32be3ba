use Rattle.pp_verify.proofs.Repeated.{repeated_are_alike}
use Rattle.pp_verify.proofs.laws.repeated_are_alike.Goals as goal

pub returns : goal.returns
returns c = repeated_are_alike

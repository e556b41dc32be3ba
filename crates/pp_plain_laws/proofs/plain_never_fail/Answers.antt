use Rattle.pp_plain_laws.proofs.Law.{plain_never_fail}
use Rattle.pp_plain_laws.proofs.plain_never_fail.Goals as goal

pub returns : goal.returns
returns c = plain_never_fail

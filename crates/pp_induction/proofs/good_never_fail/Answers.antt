use Rattle.pp_induction.proofs.Good.{good_never_fail}
use Rattle.pp_induction.proofs.good_never_fail.Goals as goal

pub returns : goal.returns
returns c = good_never_fail

use Rattle.pp_run_laws.proofs.Known.{answered_calls_suffice}
use Rattle.pp_run_laws.proofs.answered_calls_suffice.Goals as goal

pub returns : goal.returns
returns c = answered_calls_suffice

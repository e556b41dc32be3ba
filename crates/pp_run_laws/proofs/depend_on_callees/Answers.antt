use Rattle.pp_run_laws.proofs.Depends.{depend_on_callees}
use Rattle.pp_run_laws.proofs.depend_on_callees.Goals as goal

pub returns : goal.returns
returns c = depend_on_callees

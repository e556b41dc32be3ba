use Rattle.pp_run_laws.proofs.Nested.{nested_never_deep}
use Rattle.pp_run_laws.proofs.nested_never_deep.Goals as goal

pub returns : goal.returns
returns c = nested_never_deep

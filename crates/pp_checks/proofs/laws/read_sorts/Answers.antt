use Rattle.pp_checks.proofs.Called.{read_off}
use Rattle.pp_checks.proofs.laws.read_sorts.Goals as goal

pub returns : goal.returns
returns c = read_off

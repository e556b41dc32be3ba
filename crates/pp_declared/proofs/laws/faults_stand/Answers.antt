use Rattle.pp_declared.proofs.Whole.{whole_stands}
use Rattle.pp_declared.proofs.laws.faults_stand.Goals as goal

pub returns : goal.returns
returns c units f e = whole_stands units f e

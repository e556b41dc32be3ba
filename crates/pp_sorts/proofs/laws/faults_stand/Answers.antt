use Rattle.pp_sorts.proofs.Broken.{stands}
use Rattle.pp_sorts.proofs.laws.faults_stand.Goals as goal

pub returns : goal.returns
returns c roots params source t f e = stands roots params source t f e

use Rattle.pp_typing_laws.proofs.Stands.{stands_expr}
use Rattle.pp_typing_laws.proofs.faults_stand.Goals as goal

pub returns : goal.returns
returns c env t sc k x f h = stands_expr env t sc k x f h

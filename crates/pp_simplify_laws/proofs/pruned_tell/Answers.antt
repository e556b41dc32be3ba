use Rattle.pp_simplify_laws.proofs.Laws as laws
use Rattle.pp_simplify_laws.proofs.pruned_tell.Goals as goal

pub returns : goal.returns
returns g c = laws.pruned_tell g.K.Knowledge.known

use Rattle.pp_simplify_laws.proofs.Laws as laws
use Rattle.pp_simplify_laws.proofs.pruned_obey.Goals as goal

pub returns : goal.returns
returns c = laws.pruned_obey

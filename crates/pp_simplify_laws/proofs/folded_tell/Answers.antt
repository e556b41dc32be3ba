use Rattle.pp_simplify_laws.proofs.FoldLaws as laws
use Rattle.pp_simplify_laws.proofs.folded_tell.Goals as goal

pub returns : goal.returns
returns g c = laws.folded_tell g.K.Knowledge.known

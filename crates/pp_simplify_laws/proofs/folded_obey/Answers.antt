use Rattle.pp_simplify_laws.proofs.FoldLaws as laws
use Rattle.pp_simplify_laws.proofs.folded_obey.Goals as goal

pub returns : goal.returns
returns c = laws.folded_obey

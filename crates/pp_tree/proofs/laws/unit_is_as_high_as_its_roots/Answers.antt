use Rattle.pp_tree.proofs.Highs.{unit_is}
use Rattle.pp_tree.proofs.laws.unit_is_as_high_as_its_roots.Goals as goal

pub returns : goal.returns
returns c = unit_is

use Rattle.pp_bounded_trees.proofs.Lawful.{bounded_lawful}
use Rattle.pp_bounded_trees.proofs.laws.lawful.Goals as goal

pub returns : goal.returns
returns c = bounded_lawful

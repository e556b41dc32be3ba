use Rattle.pp_eval.proofs.Trees as trees
use Rattle.pp_eval.proofs.laws.compare_trees.Goals as goal

pub returns : goal.returns
returns c = trees.trees

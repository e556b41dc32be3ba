use Rattle.pp_guess_words.proofs.no_trees.Goals as goal
use Rattle.pp_guess_words.proofs.WordSorts.{no_trees}

pub returns : goal.returns
returns c = no_trees

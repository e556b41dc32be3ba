use Rattle.pp_sound.proofs.keep_sorts.Goals as goal
use Rattle.pp_sound.proofs.Laws.{keep_sorts}

pub returns : goal.returns
returns c = keep_sorts

use Rattle.pp_sound.proofs.never_stuck.Goals as goal
use Rattle.pp_sound.proofs.Laws.{never_stuck}

pub returns : goal.returns
returns c = never_stuck

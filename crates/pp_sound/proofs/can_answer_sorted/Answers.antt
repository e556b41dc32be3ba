use Rattle.pp_sound.proofs.Answered.{can_answer_sorted}
use Rattle.pp_sound.proofs.can_answer_sorted.Goals as goal

pub returns : goal.returns
returns c = can_answer_sorted

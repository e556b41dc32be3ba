use Rattle.pp_sound.proofs.fail_listed_checks.Goals as goal
use Rattle.pp_sound.proofs.Laws.{fail_listed_checks}

pub returns : goal.returns
returns c = fail_listed_checks

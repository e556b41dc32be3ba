use Rattle.pp_ordinary.proofs.Ordinary.{ordinary}
use Rattle.pp_ordinary.proofs.spelled_are_ordinary.Goals as goal

pub returns : goal.returns
returns c texts units spells = ordinary texts units spells

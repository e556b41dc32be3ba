use Rattle.pp_ordinary.proofs.Offsets.{offsets_stand}
use Rattle.pp_ordinary.proofs.spelled_stand.Goals as goal

pub returns : goal.returns
returns c texts units spells = offsets_stand texts units spells

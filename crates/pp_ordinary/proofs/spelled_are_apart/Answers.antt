use Rattle.pp_ordinary.proofs.Apart.{sites_apart}
use Rattle.pp_ordinary.proofs.spelled_are_apart.Goals as goal

pub returns : goal.returns
returns c texts units spells = sites_apart texts units spells

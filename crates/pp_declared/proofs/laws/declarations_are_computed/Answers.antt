use Rattle.pp_declared.proofs.Complete.{declares_complete}
use Rattle.pp_declared.proofs.Sound.{declares_sound}
use Rattle.pp_declared.proofs.laws.declarations_are_computed.Goals as goal

pub returns : goal.returns
returns c units d = (declares_complete units d, declares_sound units d)

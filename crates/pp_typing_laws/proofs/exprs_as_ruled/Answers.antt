use Rattle.pp_typing_laws.proofs.Complete.{complete}
use Rattle.pp_typing_laws.proofs.Sound.{sound}
use Rattle.pp_typing_laws.proofs.exprs_as_ruled.Goals as goal

pub returns : goal.returns
returns c env t sc k x e = (sound env t sc k x e, complete env)

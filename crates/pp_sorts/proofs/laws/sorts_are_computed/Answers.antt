use Rattle.pp_sorts.proofs.Computed.{complete, sound}
use Rattle.pp_sorts.proofs.laws.sorts_are_computed.Goals as goal

pub returns : goal.returns
returns c roots params source t s = (complete roots params source, sound roots params source t s)

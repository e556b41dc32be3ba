use Rattle.pp_domain.proofs.Numbering.{lists_are_named as law}
use Rattle.pp_domain.proofs.laws.lists_are_named.Goals as goal

pub returns : goal.returns
returns c = law

use Rattle.pp_generic.proofs.Equal.{agree}
use Rattle.pp_generic.proofs.sort.are_same.Goals as goal

pub returns : goal.returns
returns c = record { value = agree c.same.result _ _ c.same.ensures; same = c.same.ensures }

use Rattle.pp_inhabited.proofs.Exact.{found, has_own}
use Rattle.pp_inhabited.proofs.laws.closed_tables_are_exact.Goals as goal

pub returns : goal.returns
returns c roots ctors t few sound closed r root there =
    (found roots ctors t few closed r root, has_own roots ctors t sound r root there)

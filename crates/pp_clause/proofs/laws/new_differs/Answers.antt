use Rattle.pp_clause.proofs.Counting.{new_differs_law}
use Rattle.pp_clause.proofs.laws.new_differs.Goals as goal

pub returns : goal.returns
returns c = new_differs_law

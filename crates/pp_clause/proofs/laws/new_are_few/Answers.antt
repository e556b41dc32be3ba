use Rattle.pp_clause.proofs.Counting.{new_are_few_law}
use Rattle.pp_clause.proofs.laws.new_are_few.Goals as goal

pub returns : goal.returns
returns c = new_are_few_law

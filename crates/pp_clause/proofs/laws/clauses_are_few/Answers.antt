use Rattle.pp_clause.proofs.Counting.{clauses_are_few_law}
use Rattle.pp_clause.proofs.laws.clauses_are_few.Goals as goal

pub returns : goal.returns
returns c = clauses_are_few_law

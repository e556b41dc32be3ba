use Rattle.pp_clause.proofs.Soundness.{derived_is_true_law}
use Rattle.pp_clause.proofs.laws.derived_is_true.Goals as goal

pub returns : goal.returns
returns c = derived_is_true_law

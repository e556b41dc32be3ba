use Rattle.pp_clause.proofs.Soundness.{refuted_law}
use Rattle.pp_clause.proofs.laws.refuted_is_unsatisfiable.Goals as goal

pub returns : goal.returns
returns c = refuted_law

use Rattle.std.proofs.Common.{All, subst}
use Rattle.pp_clause.specs.Log.{IsLemma}
use Rattle.pp_clause.proofs.log.Log.as_slice.Goals as goal

pub returns-clause-lemmas : goal.returns-clause-lemmas
returns-clause-lemmas c = subst (λ xs. All IsLemma xs) c.self.view_is c.self.invariant

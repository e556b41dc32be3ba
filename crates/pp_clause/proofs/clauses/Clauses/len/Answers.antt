use Rattle.std.proofs.Common.{All, subst}
use Rattle.pp_clause.specs.Clause.{IsClause}
use Rattle.pp_clause.proofs.clauses.Clauses.len.Goals as goal

pub returns-clause-order : goal.returns-clause-order
returns-clause-order c = subst (λ xs. All IsClause xs) c.self.view_is c.self.invariant.1

use Rattle.std.proofs.Common.{arith, ap, length}
use Rattle.std.proofs.lemmas.List.Elements.{All-push, All-same}
use Rattle.pp_clause.specs.Clause.{IsClause}
use Rattle.pp_clause.proofs.clauses.Clauses.add.Goals as goal

pub invariant_of-self : goal.invariant_of-self
invariant_of-self c = (
  omega (arith, c.in_err-push.ensures.len, c.self.invariant.0),
  All-same IsClause _ _ c.in_err-push.ensures.items c.self.invariant.1,
)

pub invariant_of-self-2 : goal.invariant_of-self-2
invariant_of-self-2 c = (
  omega (arith, c.in_ok-push.ensures.len, c.requires, ap length c.self.view_is),
  All-same IsClause _ _ c.in_ok-push.ensures.items
      (All-push IsClause _ _ c.self.invariant.1 c.lits-lits.ensures.order),
)

use Rattle.pp_gate.proofs.Clausal.{adds_clause}
use Rattle.pp_gate.proofs.clauses.add_sorted.Goals as goal

pub returns-in_ok-add-in-Some : goal.returns-in_ok-add-in-Some
returns-in_ok-add-in-Some c =
    adds_clause _ _ c.in-Some.clause _ c.in_ok-add-in-Some.ensures.ok
    (rw c.in-Some.is at c.in_ok-clause.ensures.same) (rw c.in-Some.is at c.in_ok-clause.ensures.order)
    (rw c.in-Some.is at c.in_ok-clause.ensures.value) c.requires.short

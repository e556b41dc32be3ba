use Rattle.pp_watch.proofs.States.{clause_at_number}
use Rattle.pp_watch.proofs.state.State.attach.Goals as goal

pub settle-requires-clause-clause : goal.settle-requires-clause-clause
settle-requires-clause-clause c = clause_at_number _ _ _ _ c.lits_of.ensures

pub watch-requires-clause-clause : goal.watch-requires-clause-clause
watch-requires-clause-clause c =
    let g = c.settle.ensures.attaches.grows in
    rw (g.clauses, g.vars) (clause_at_number _ _ _ _ c.lits_of.ensures)

use Rattle.pp_watch.proofs.Rows.{AreCleared}
use Rattle.pp_watch.proofs.lists.Lists.clear.Given as goal

abbrev pub invariant-loop-list : goal.invariant-loop-list
invariant-loop-list l = AreCleared l.initial.list-items l.list-items l.list-index

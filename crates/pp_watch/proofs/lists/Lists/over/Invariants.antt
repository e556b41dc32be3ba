use Rattle.std.proofs.Common.{◌≡◌, [], replicate}
use Rattle.pp_watch.proofs.Rows.{rows}
use Rattle.pp_watch.proofs.lists.Lists.over.Given as goal

abbrev pub invariant-loop-index : goal.invariant-loop-index
invariant-loop-index l = rows l.items.items ≡ replicate l.index []

use Rattle.pp_store.specs.Values.{value_of}
use Rattle.pp_store.proofs.Marks.{IsSearch}
use Rattle.pp_store.proofs.store.Store.is_under.Given as goal

abbrev pub invariant-loop-left : goal.invariant-loop-left
invariant-loop-left l = IsSearch l.self (value_of l.self l.a) l.top l.marks.items l.left

abbrev pub decreases-loop-left : goal.decreases-loop-left
decreases-loop-left l = l.left

use Rattle.pp_store.proofs.Loading.{IsLoading, work_of}
use Rattle.pp_store.proofs.store.Store.load.Given as goal

abbrev pub invariant-loop-next : goal.invariant-loop-next
invariant-loop-next l = IsLoading l.fn.self l.self l.fn.value l.pending l.helds

abbrev pub decreases-loop-next : goal.decreases-loop-next
decreases-loop-next l = work_of l.pending

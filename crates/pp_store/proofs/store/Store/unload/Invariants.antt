use Rattle.pp_store.specs.Values.{value_of}
use Rattle.pp_store.proofs.Tasks.{IsUnloading, work_of}
use Rattle.pp_store.proofs.store.Store.unload.Given as goal

abbrev pub invariant-loop-task : goal.invariant-loop-task
invariant-loop-task l = IsUnloading l.self (value_of l.self l.fn.held) l.tasks l.values

abbrev pub decreases-loop-task : goal.decreases-loop-task
decreases-loop-task l = work_of l.self l.tasks

use Rattle.pp_store.specs.Pairs.{IsSame, weight}
use Rattle.pp_store.proofs.Pairs.{IsPending}
use Rattle.pp_store.proofs.store.Store.same.Given as goal

abbrev pub invariant-loop-pair : goal.invariant-loop-pair
invariant-loop-pair l = IsPending l.self (IsSame l.self (record { left = l.fn.a; right = l.fn.b })) l.pending

abbrev pub decreases-loop-pair : goal.decreases-loop-pair
decreases-loop-pair l = weight l.self l.pending

use Rattle.std.proofs.Common.{◌≡◌, ◌++◌, drop, reverse}
use Rattle.pp_store.specs.Pairs.{pairs}
use Rattle.pp_store.proofs.same.push_pairs.Given as goal

abbrev pub invariant-loop-i : goal.invariant-loop-i
invariant-loop-i l = l.pending ≡ l.initial.pending ++ reverse (pairs (drop l.i l.xs) (drop l.i l.ys))

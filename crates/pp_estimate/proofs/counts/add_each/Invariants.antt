use Rattle.std.proofs.Common.{◌≡◌, take}
use Rattle.pp_estimate.specs.Counted.{plus_each}
use Rattle.pp_estimate.proofs.counts.add_each.Given as goal

abbrev pub invariant-loop-i : goal.invariant-loop-i
invariant-loop-i l = l.counts ≡ plus_each l.initial.counts (take l.i l.more)

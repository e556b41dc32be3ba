use Rattle.std.proofs.Common.{◌≡◌, replicate}
use Rattle.pp_estimate.proofs.counts.zeros.Given as goal

abbrev pub invariant-loop-i : goal.invariant-loop-i
invariant-loop-i l = l.zeros ≡ replicate l.i 0

use Rattle.std.proofs.Common.{◌+◌, length}
use Rattle.pp_cover.proofs.Coverage.{Invariant}
use Rattle.pp_cover.proofs.Weight.{score}
use Rattle.pp_cover.proofs.cover.covered.Given as goal

abbrev pub invariant-loop-matrix : goal.invariant-loop-matrix
invariant-loop-matrix l = Invariant l.table l.fn.sort l.patterns l.pending

abbrev pub decreases-loop-matrix : goal.decreases-loop-matrix
decreases-loop-matrix l = score (length l.table.ctors + 3) l.pending

use Rattle.std.proofs.Common.{◌≡◌}
use Rattle.pp_estimate.specs.Bounds.{full_row}
use Rattle.pp_estimate.proofs.sizes.row_above.Given as goal

abbrev pub invariant-loop-h : goal.invariant-loop-h
invariant-loop-h l = l.row ≡ full_row l.types l.h

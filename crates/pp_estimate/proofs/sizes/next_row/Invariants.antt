use Rattle.std.proofs.Common.{◌≡◌, ◌+◌}
use Rattle.pp_estimate.specs.Bounds.{row}
use Rattle.pp_estimate.proofs.sizes.next_row.Given as goal

abbrev pub invariant-loop-d : goal.invariant-loop-d
invariant-loop-d l = l.row ≡ row l.types (l.height + 1) l.d

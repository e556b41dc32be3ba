use Rattle.std.proofs.Common.{◌≡◌, take}
use Rattle.pp_cover.proofs.matrix.copy_row.Given as goal

abbrev pub invariant-loop-constraint : goal.invariant-loop-constraint
invariant-loop-constraint l = l.constraints ≡ take l.constraint-index l.row

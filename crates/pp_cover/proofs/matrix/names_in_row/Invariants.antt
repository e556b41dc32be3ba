use Rattle.std.proofs.Common.{◌≡◌, drop}
use Rattle.pp_cover.specs.Matrix.{names_in_row}
use Rattle.pp_cover.proofs.matrix.names_in_row.Given as goal

abbrev pub invariant-loop-constraint : goal.invariant-loop-constraint
invariant-loop-constraint l =
    names_in_row l.column l.head (drop l.constraint-index l.row) ≡ names_in_row l.column l.head l.row

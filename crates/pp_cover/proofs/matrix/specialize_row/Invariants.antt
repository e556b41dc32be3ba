use Rattle.std.proofs.Common.{◌≡◌, ◌++◌, drop}
use Rattle.pp_cover.specs.Matrix.{specialized_row}
use Rattle.pp_cover.proofs.matrix.specialize_row.Given as goal

abbrev pub invariant-loop-constraint : goal.invariant-loop-constraint
invariant-loop-constraint l =
    l.constraints ++ specialized_row l.column l.first
    (drop l.constraint-index l.row) ≡ specialized_row l.column l.first l.row

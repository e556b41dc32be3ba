use Rattle.std.proofs.Common.{◌≡◌, ◌++◌, drop}
use Rattle.pp_cover.specs.Matrix.{specialized_rows}
use Rattle.pp_cover.proofs.matrix.specialize_rows.Given as goal

abbrev pub invariant-loop-row : goal.invariant-loop-row
invariant-loop-row l =
    l.kept ++ specialized_rows l.column l.head l.arity l.first
    (drop l.row-index l.rows) ≡ specialized_rows l.column l.head l.arity l.first l.rows

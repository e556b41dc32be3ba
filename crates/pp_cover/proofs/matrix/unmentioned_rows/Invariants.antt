use Rattle.std.proofs.Common.{◌≡◌, ◌++◌, drop}
use Rattle.pp_cover.specs.Matrix.{default_rows}
use Rattle.pp_cover.proofs.matrix.unmentioned_rows.Given as goal

abbrev pub invariant-loop-row : goal.invariant-loop-row
invariant-loop-row l = l.kept ++ default_rows l.column (drop l.row-index l.rows) ≡ default_rows l.column l.rows

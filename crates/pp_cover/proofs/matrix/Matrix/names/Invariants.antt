use Rattle.std.proofs.Common.{◌≡◌, drop}
use Rattle.pp_cover.specs.Matrix.{names}
use Rattle.pp_cover.proofs.matrix.Matrix.names.Given as goal

abbrev pub invariant-loop-row : goal.invariant-loop-row
invariant-loop-row l = names l.column l.head (drop l.row-index l.self.rows) ≡ names l.column l.head l.self.rows

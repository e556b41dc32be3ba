use Rattle.std.proofs.Common.{◌≡◌, drop}
use Rattle.pp_cover.specs.Matrix.{mentions}
use Rattle.pp_cover.proofs.matrix.mentions.Given as goal

abbrev pub invariant-loop-constraint : goal.invariant-loop-constraint
invariant-loop-constraint l = mentions l.column (drop l.constraint-index l.row) ≡ mentions l.column l.row

use Rattle.std.proofs.Common.{◌≡◌, drop}
use Rattle.pp_cover.specs.Matrix.{admits}
use Rattle.pp_cover.proofs.matrix.admits.Given as goal

abbrev pub invariant-loop-constraint : goal.invariant-loop-constraint
invariant-loop-constraint l =
    admits l.column l.head l.arity (drop l.constraint-index l.row) ≡ admits l.column l.head l.arity l.row

use Rattle.std.proofs.Common.{◌≡◌, take}
use Rattle.pp_cover.specs.Cover.{first_rows}
use Rattle.pp_cover.proofs.cover.matrix_of.Given as goal

abbrev pub invariant-loop-pattern : goal.invariant-loop-pattern
invariant-loop-pattern l = l.rows ≡ first_rows (take l.pattern-index l.patterns)

-- The matrix of a list of patterns, and what its shortest row tells of a matrix. Source: own.
use Rattle.std.specs.Prelude.{◌≡◌, ℕ, true, List, [], ◌∷◌, Option, Some, None, map, Contains}
use Rattle.pp_prog.specs.declared.expr.Pattern.{Pattern}
use Rattle.pp_prog.specs.declared.sort.Sort.{Sort}
use Rattle.pp_cover.specs.declared.cover.Step.{Step}
use Rattle.pp_cover.specs.declared.cover.Step.TheVariants.{Uncovered, Covered, Split}
use Rattle.pp_cover.specs.declared.constraint.Constraint.{Constraint}
use Rattle.pp_cover.specs.declared.matrix.Matrix.{Matrix}
use Rattle.pp_cover.specs.Constraint.{constraints}
use Rattle.pp_cover.specs.Matrix.{any_mentions}

-- a row for each pattern
abbrev pub first_rows : List Pattern → List (List Constraint)
first_rows = map (λ p. constraints p 0)

-- one column, whose value is to fit one of the patterns
abbrev pub first_matrix : Sort → List Pattern → Matrix
first_matrix s patterns = record { sorts = s ∷ []; rows = first_rows patterns }

-- no row, a row that constrains nothing, or a column that some row mentions
abbrev pub IsStep : List (List Constraint) → Step → Type 0
IsStep rows Uncovered = rows ≡ []
IsStep rows Covered = Contains rows []
IsStep rows (Split k) = any_mentions k rows ≡ true

abbrev pub first_column : List Constraint → Option ℕ
first_column [] = None
first_column (c ∷ row) = Some c.column

-- The names of steps: the number of the earlier step that has a step's value, where one is known. Source: own; as
-- values are numbered in straight-line code.
use Rattle.std.specs.Prelude.{ℕ, List, Option, Some, None, slice_get}
use Rattle.pp_steps.specs.Compile.{number_or}

-- by the number of a step, where another one has its value
abbrev pub Names : Type 0
Names = List (Option ℕ)

abbrev pub name_or : ℕ → Option (Option ℕ) → ℕ
name_or k None = k
name_or k (Some o) = number_or k o

-- the number of the step that stands for the step with this one
abbrev pub named : Names → ℕ → ℕ
named names k = name_or k (slice_get names k)

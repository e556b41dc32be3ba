use Rattle.std.proofs.Common.{◌≡◌, ℕ, ◌<◌, Some, false, slice_get}
use Rattle.pp_clause.specs.Assignment.{assigned}
use Rattle.pp_clause.specs.Literal.{lit_value}
use Rattle.pp_bounded_trees.specs.declared.arena.Alternative.{Alternative}
use Rattle.pp_bounded_trees.proofs.read.first_true.Given as goal

abbrev pub invariant-loop-place : goal.invariant-loop-place
invariant-loop-place l =
    (j : ℕ) (y : Alternative) → j < l.place → slice_get l.alternatives j ≡ Some y
    → lit_value (assigned l.assignment) y.lit ≡ false

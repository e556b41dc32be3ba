use Rattle.pp_bounded_trees.proofs.Candidates.{PossibleBefore}
use Rattle.pp_bounded_trees.proofs.possible.possible.Given as goal

abbrev pub invariant-loop-place : goal.invariant-loop-place
invariant-loop-place l = PossibleBefore l.table l.height l.fn.of l.first l.place l.found

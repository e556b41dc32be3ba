use Rattle.std.proofs.Common.{◌≡◌}
use Rattle.pp_simplify.specs.Marks.{is_marked}
use Rattle.pp_simplify.proofs.Replacing.{pruned_to}
use Rattle.pp_simplify.proofs.pruning.prune.Given as goal

abbrev pub invariant-loop-number : goal.invariant-loop-number
invariant-loop-number l = l.steps ≡ pruned_to (is_marked l.marks.items) l.number 0 l.initial.steps

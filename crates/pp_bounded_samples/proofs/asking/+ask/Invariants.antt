use Rattle.std.proofs.Common.{◌+◌, ◌*◌}
use Rattle.pp_bounded_samples.specs.Kept.{Goes}
use Rattle.pp_bounded_samples.proofs.asking.+ask.Given as goal

abbrev pub decreases-ask : goal.decreases-ask
decreases-ask l = 2 * l.height

abbrev pub decreases-ask_tree : goal.decreases-ask_tree
decreases-ask_tree l = 2 * l.height + 1

abbrev pub invariant-ask_tree-loop-place : goal.invariant-ask_tree-loop-place
invariant-ask_tree-loop-place l = Goes l.table l.initial.domain l.initial.circuit l.domain l.circuit

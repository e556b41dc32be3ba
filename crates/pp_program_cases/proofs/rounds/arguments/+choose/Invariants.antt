use Rattle.std.proofs.Common.{◌+◌, ◌*◌}
use Rattle.pp_program_cases.proofs.rounds.arguments.+choose.Given as goal

abbrev pub decreases-list_at : goal.decreases-list_at
decreases-list_at l = 3 * l.height + 2

abbrev pub decreases-value_at : goal.decreases-value_at
decreases-value_at l = 3 * l.height + 1

abbrev pub decreases-tree_at : goal.decreases-tree_at
decreases-tree_at l = 3 * l.height

use Rattle.std.proofs.Common.{◌+◌, ◌*◌}
use Rattle.pp_program_cases.proofs.rounds.arguments.+count.Given as goal

abbrev pub decreases-count_lists : goal.decreases-count_lists
decreases-count_lists l = 3 * l.height + 2

abbrev pub decreases-count_values : goal.decreases-count_values
decreases-count_values l = 3 * l.height + 1

abbrev pub decreases-count_trees : goal.decreases-count_trees
decreases-count_trees l = 3 * l.height

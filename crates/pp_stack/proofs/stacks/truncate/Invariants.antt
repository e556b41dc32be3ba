use Rattle.std.proofs.Common.{◌≡◌, take, length}
use Rattle.pp_stack.proofs.stacks.truncate.Given as goal

abbrev pub invariant-loop-helds : goal.invariant-loop-helds
invariant-loop-helds l = take l.first l.helds ≡ take l.first l.initial.helds

abbrev pub decreases-loop-helds : goal.decreases-loop-helds
decreases-loop-helds l = length l.helds

use Rattle.std.proofs.Common.{◌≡◌, take, length}
use Rattle.pp_checks.proofs.scope.truncate.Given as goal

abbrev pub invariant-loop-items : goal.invariant-loop-items
invariant-loop-items g l = take l.n l.items ≡ take l.n l.initial.items

abbrev pub decreases-loop-items : goal.decreases-loop-items
decreases-loop-items g l = length l.items

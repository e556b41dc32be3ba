use Rattle.std.proofs.Common.{◌≡◌, length, take}
use Rattle.pp_typing.proofs.arms.truncate.Given as goal

abbrev pub invariant-loop-scope : goal.invariant-loop-scope
invariant-loop-scope l = take l.count l.scope ≡ take l.count l.initial.scope

abbrev pub decreases-loop-scope : goal.decreases-loop-scope
decreases-loop-scope l = length l.scope

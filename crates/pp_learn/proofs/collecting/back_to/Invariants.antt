use Rattle.std.proofs.Common.{take}
use Rattle.pp_learn.proofs.MetSeen.{FollowsAmong}
use Rattle.pp_learn.proofs.collecting.back_to.Given as goal

abbrev pub invariant-loop-var : goal.invariant-loop-var
invariant-loop-var l = FollowsAmong l.trail l.seen l.end (take l.var-index l.met) l.back

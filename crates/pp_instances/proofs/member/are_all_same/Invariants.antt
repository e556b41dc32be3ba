use Rattle.std.proofs.Common.{◌≡◌, take}
use Rattle.pp_instances.proofs.member.are_all_same.Given as goal

abbrev pub invariant-loop-i : goal.invariant-loop-i
invariant-loop-i l = take l.i l.xs ≡ take l.i l.ys

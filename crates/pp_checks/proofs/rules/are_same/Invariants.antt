use Rattle.std.proofs.Common.{◌≡◌, take}
use Rattle.pp_checks.proofs.rules.are_same.Given as goal

abbrev pub invariant-loop-i : goal.invariant-loop-i
invariant-loop-i l = take l.i l.sorts ≡ take l.i l.others

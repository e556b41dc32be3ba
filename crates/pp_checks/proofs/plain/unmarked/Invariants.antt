use Rattle.std.proofs.Common.{◌≡◌, false, replicate}
use Rattle.pp_checks.proofs.plain.unmarked.Given as goal

abbrev pub invariant-loop-i : goal.invariant-loop-i
invariant-loop-i l = l.marks ≡ replicate l.i false

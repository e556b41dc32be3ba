use Rattle.std.proofs.Common.{◌≡◌, None, replicate}
use Rattle.pp_checks.proofs.nesting.unknown.Given as goal

abbrev pub invariant-loop-i : goal.invariant-loop-i
invariant-loop-i l = l.depths ≡ replicate l.i None

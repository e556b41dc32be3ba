use Rattle.std.proofs.Common.{◌≡◌, None, replicate}
use Rattle.pp_generic.proofs.found.none_found.Given as goal

abbrev pub invariant-loop-i : goal.invariant-loop-i
invariant-loop-i l = l.found ≡ replicate l.i None

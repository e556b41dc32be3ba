use Rattle.std.proofs.Common.{◌≡◌, drop, map}
use Rattle.pp_typed.specs.Equal.{pass_all}
use Rattle.pp_generic.specs.Expected.{fits}
use Rattle.pp_generic.proofs.expected.+fits.Given as goal

abbrev pub decreases-fits : goal.decreases-fits
decreases-fits l = goal.size-fits l

abbrev pub invariant-loop-i : goal.invariant-loop-i
invariant-loop-i l = pass_all (map fits l.xs) l.ys ≡ pass_all (map fits (drop l.i l.xs)) (drop l.i l.ys)

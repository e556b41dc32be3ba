use Rattle.pp_inhabited.specs.Settled.{IsClosedBelow, Visited}
use Rattle.pp_inhabited.proofs.visit.visit.Given as goal

abbrev pub invariant-loop-mask : goal.invariant-loop-mask
invariant-loop-mask l =
    Visited l.roots l.ctors l.initial.rows l.rows l.changed (IsClosedBelow l.roots l.ctors l.c l.mask)

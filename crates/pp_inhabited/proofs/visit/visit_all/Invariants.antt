use Rattle.pp_inhabited.specs.Settled.{AreClosed, Visited}
use Rattle.pp_inhabited.proofs.visit.visit_all.Given as goal

abbrev pub invariant-loop-c : goal.invariant-loop-c
invariant-loop-c l = Visited l.roots l.ctors l.initial.rows l.rows l.changed (AreClosed l.roots l.ctors l.c)

use Rattle.pp_stack.proofs.Fitting.{IsFitting}
use Rattle.pp_stack.proofs.fit.+fit.Given as goal

abbrev pub invariant-bind_fields-loop-i : goal.invariant-bind_fields-loop-i
invariant-bind_fields-loop-i l = IsFitting l.store l.patterns l.helds l.i l.initial.env l.env

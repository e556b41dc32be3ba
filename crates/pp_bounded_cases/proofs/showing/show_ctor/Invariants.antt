use Rattle.pp_bounded_samples.specs.Kept.{Looked}
use Rattle.pp_bounded_cases.proofs.showing.show_ctor.Given as goal

abbrev pub invariant-loop-place : goal.invariant-loop-place
invariant-loop-place l = Looked l.table l.initial.domain l.initial.circuit l.domain l.circuit

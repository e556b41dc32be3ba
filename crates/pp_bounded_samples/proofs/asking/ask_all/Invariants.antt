use Rattle.pp_bounded_samples.specs.Kept.{Goes}
use Rattle.pp_bounded_samples.proofs.asking.ask_all.Given as goal

abbrev pub invariant-loop-place : goal.invariant-loop-place
invariant-loop-place l = Goes l.table l.initial.domain l.initial.circuit l.domain l.circuit

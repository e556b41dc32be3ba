use Rattle.pp_bounded_samples.specs.Kept.{Looked}
use Rattle.pp_bounded_cases.proofs.showing.show_parts.Given as goal

abbrev pub invariant-loop-number : goal.invariant-loop-number
invariant-loop-number l = Looked l.table l.initial.domain l.initial.circuit l.domain l.circuit

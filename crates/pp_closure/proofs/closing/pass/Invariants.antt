use Rattle.pp_closure.specs.Keeps.{Keeps}
use Rattle.pp_closure.proofs.closing.pass.Given as goal

abbrev pub invariant-loop-number : goal.invariant-loop-number
invariant-loop-number l = Keeps l.all l.initial.facts l.facts

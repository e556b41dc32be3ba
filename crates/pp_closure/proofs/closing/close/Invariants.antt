use Rattle.pp_closure.specs.Keeps.{Keeps}
use Rattle.pp_closure.proofs.closing.close.Given as goal

abbrev pub invariant-loop : goal.invariant-loop
invariant-loop l = Keeps l.all l.initial.facts l.facts

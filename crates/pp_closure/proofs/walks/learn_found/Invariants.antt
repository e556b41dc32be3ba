use Rattle.pp_closure.specs.Keeps.{Keeps}
use Rattle.pp_closure.proofs.walks.learn_found.Given as goal

abbrev pub invariant-loop-it : goal.invariant-loop-it
invariant-loop-it l = Keeps l.all l.initial.facts l.facts

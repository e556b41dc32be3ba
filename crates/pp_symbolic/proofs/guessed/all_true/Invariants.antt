use Rattle.pp_symbolic.proofs.Conjunction.{Joins}
use Rattle.pp_symbolic.proofs.guessed.all_true.Given as goal

abbrev pub invariant-loop-number : goal.invariant-loop-number
invariant-loop-number g l = Joins l.fn.circuit l.fn.first l.registers l.numbers l.number-index l.circuit l.all

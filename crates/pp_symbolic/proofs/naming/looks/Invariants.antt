use Rattle.pp_symbolic.proofs.Names.{AreLooks}
use Rattle.pp_symbolic.proofs.naming.looks.Given as goal

abbrev pub invariant-loop-step : goal.invariant-loop-step
invariant-loop-step l = AreLooks l.steps l.step-index l.count

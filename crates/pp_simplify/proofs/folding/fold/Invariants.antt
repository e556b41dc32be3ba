use Rattle.pp_simplify.proofs.Turns.{AreFolded}
use Rattle.pp_simplify.proofs.folding.fold.Given as goal

abbrev pub invariant-loop-step : goal.invariant-loop-step
invariant-loop-step l = AreFolded l.steps l.step-index l.news l.names

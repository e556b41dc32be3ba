use Rattle.pp_induct.proofs.Firsts.{NoneMarkedBelow}
use Rattle.pp_induct.proofs.concluding.first_undone.Given as goal

abbrev pub invariant-loop-g : goal.invariant-loop-g
invariant-loop-g l = NoneMarkedBelow l.program l.undone l.f.0 l.g

use Rattle.pp_induct.specs.Concluding.{MarkUndone}
use Rattle.pp_induct.proofs.concluding.undone_functions.Given as goal

abbrev pub invariant-loop-f : goal.invariant-loop-f
invariant-loop-f l = MarkUndone l.program l.ends l.marks l.f

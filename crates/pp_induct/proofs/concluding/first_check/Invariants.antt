use Rattle.pp_induct.proofs.Firsts.{NoneBelow}
use Rattle.pp_induct.proofs.concluding.first_check.Given as goal

abbrev pub invariant-loop-c : goal.invariant-loop-c
invariant-loop-c l = NoneBelow l.checks l.ends l.way l.f.0 l.c

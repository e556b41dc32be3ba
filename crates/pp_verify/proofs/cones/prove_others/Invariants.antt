use Rattle.pp_verify.proofs.Proving.{AreProvedBy}
use Rattle.pp_verify.proofs.cones.prove_others.Given as goal

abbrev pub invariant-loop-c : goal.invariant-loop-c
invariant-loop-c l = AreProvedBy l.program l.limits l.fn.ends l.after

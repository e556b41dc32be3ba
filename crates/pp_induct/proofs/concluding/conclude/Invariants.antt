use Rattle.pp_induct.proofs.Firsts.{AreVerdictsTo}
use Rattle.pp_induct.proofs.concluding.conclude.Given as goal

abbrev pub invariant-loop-f : goal.invariant-loop-f
invariant-loop-f l = AreVerdictsTo l.program l.ends l.f l.verdicts

use Rattle.std.proofs.Common.{drop}
use Rattle.pp_learn.proofs.MetSeen.{AreLeft}
use Rattle.pp_learn.proofs.seen.blank.Given as goal

abbrev pub invariant-loop-var : goal.invariant-loop-var
invariant-loop-var l = AreLeft l.seen (drop l.var-index l.met)

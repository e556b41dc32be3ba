use Rattle.std.proofs.Common.{◌≡◌, length}
use Rattle.pp_learn.proofs.MetSeen.{AreBlankTo}
use Rattle.pp_learn.proofs.seen.blank_all.Given as goal

abbrev pub invariant-loop-var : goal.invariant-loop-var
invariant-loop-var l = record { end : l.var-end ≡ length l.initial.seen; gone : AreBlankTo l.seen l.var }

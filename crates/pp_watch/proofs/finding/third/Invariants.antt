use Rattle.std.proofs.Common.{◌≡◌, true, take}
use Rattle.pp_clause.specs.Clause.{has}
use Rattle.pp_watch.proofs.Literals.{AreThese}
use Rattle.pp_watch.proofs.finding.third.Given as goal

abbrev pub invariant-loop-other : goal.invariant-loop-other
invariant-loop-other l = record {
  held : has l.clause l.third ≡ true;
  these : AreThese (take l.other-index l.clause) l.fn.lit l.blocker l.third;
}

use Rattle.std.proofs.Common.{◌≡◌, drop}
use Rattle.pp_estimate.specs.Bounds.{AreRows}
use Rattle.pp_estimate.specs.Counted.{counted}
use Rattle.pp_estimate.specs.Visits.{comparison}
use Rattle.pp_estimate.proofs.comparing.compare_all.Given as goal

abbrev pub invariant-loop-i : goal.invariant-loop-i
invariant-loop-i l = record {
  counts : counted l.initial.counts (comparison l.types l.new l.old)
      ≡ counted l.counts (comparison l.types (drop l.i l.new) (drop l.i l.old));
  rows : AreRows l.types l.rows;
}

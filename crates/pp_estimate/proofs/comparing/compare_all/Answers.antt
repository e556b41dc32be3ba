use Rattle.std.proofs.Common.{refl}
use Rattle.pp_estimate.proofs.Bound.{compare_more}
use Rattle.pp_estimate.proofs.comparing.compare_all.Goals as goal

pub loop-i-preserved : goal.loop-i-preserved
loop-i-preserved c = record {
  counts = compare_more c.args.types.now c.args.new.now c.args.old.now c.loop-i.i _ _ c.args.counts.now
      c.loop-i.counts c.compare_at.new.counts c.loop-i-test.true refl c.loop-i.invariant.counts
      c.in_ok-compare_at.ensures.counted;
  rows = c.in_ok-compare_at.ensures.rows;
}

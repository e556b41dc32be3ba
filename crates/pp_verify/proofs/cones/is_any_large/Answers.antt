use Rattle.std.proofs.Common.{arith, below_more}
use Rattle.std.proofs.lemmas.Option.{slice_get_within}
use Rattle.pp_verify.proofs.cones.is_any_large.Goals as goal

pub loop-c-preserved : goal.loop-c-preserved
loop-c-preserved c =
    below_more _ _ c.loop-c.invariant
    (λ large. let told = c.is_large_at.ensures.1 large in let off = c.if-is_large_at.false in cc)

pub returns : goal.returns
returns c = (
  λ h. cc,
  λ large. absurd (c.loop-c.invariant large.0
      (omega (arith, c.loop-c-test.false, slice_get_within c.args.ends.now large.0 large.1.0 large.1.1)) large.1),
)

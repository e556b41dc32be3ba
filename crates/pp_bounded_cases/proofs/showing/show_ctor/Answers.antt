use Rattle.pp_bounded_samples.proofs.Going.{looked_more}
use Rattle.pp_bounded_cases.proofs.showing.show_ctor.Goals as goal

pub loop-place-preserved : goal.loop-place-preserved
loop-place-preserved c = looked_more _ _ _ _ _ _ _ c.loop-place.invariant c.in_ok-field.ensures

pub returns : goal.returns
returns c = looked_more _ _ _ _ _ _ _ c.in_ok-lit.ensures c.loop-place.invariant

use Rattle.pp_bounded_samples.proofs.Going.{goes_more}
use Rattle.pp_bounded_samples.proofs.asking.+ask.Goals as goal

pub ask_tree-loop-place-preserved : goal.ask_tree-loop-place-preserved
ask_tree-loop-place-preserved t c =
    goes_more _ _ _ _ _ _ _ (goes_more _ _ _ _ _ _ _ c.loop-place.invariant c.in_ok-field.ensures.looked.goes)
    c.in_ok-ask.ensures

pub ask_tree-returns : goal.ask_tree-returns
ask_tree-returns t c = goes_more _ _ _ _ _ _ _ c.in_ok-has_ctor.ensures.goes c.loop-place.invariant

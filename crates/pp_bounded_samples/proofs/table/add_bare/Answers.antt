use Rattle.pp_bounded_samples.proofs.SampleTable.{bare_turn}
use Rattle.pp_bounded_samples.proofs.table.add_bare.Goals as goal

pub loop-place-preserved : goal.loop-place-preserved
loop-place-preserved c =
    record { ctors = bare_turn _ _ _ _ _ c.loop-place.invariant.ctors c.in_ok-add_ctor.ensures }

use Rattle.pp_gate.proofs.Places.{at_read}
use Rattle.pp_named_below.proofs.Reading.{fields_turn}
use Rattle.pp_named_below.proofs.fields.fields_of_all.Goals as goal

pub loop-place-preserved : goal.loop-place-preserved
loop-place-preserved c =
    let at = at_read c.args.alternatives.now c.loop-place.place c.index-alternatives-place.result
    c.loop-place-test.true c.index-alternatives-place.is in
    record {
      is = fields_turn c.args.alternatives.now c.loop-place.place _ _ _ _ at c.as_slice.ensures
          c.loop-place.invariant.is c.in_ok-push_trees.ensures;
    }

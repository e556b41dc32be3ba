use Rattle.pp_gate.proofs.Places.{at_read}
use Rattle.pp_named_below.proofs.Reading.{trees_turn}
use Rattle.pp_named_below.proofs.fields.push_trees.Goals as goal

pub loop-place-preserved : goal.loop-place-preserved
loop-place-preserved c =
    let at = at_read c.args.symbols.now c.loop-place.place c.index-symbols-place.result c.loop-place-test.true
    c.index-symbols-place.is in
    record {
      is = trees_turn c.args.lit c.args.symbols.now c.loop-place.place _ c.args.fields.now _ _ at
          c.loop-place.invariant.is c.in_ok-push_tree.ensures;
    }

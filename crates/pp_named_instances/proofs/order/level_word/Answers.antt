use Rattle.std.proofs.lemmas.Option.{slice_get-get_or}
use Rattle.pp_named_instances.proofs.OrderLoops.{level_word_found}
use Rattle.pp_named_instances.proofs.order.level_word.Goals as goal

pub returns-then-levels-place : goal.returns-then-levels-place
returns-then-levels-place c =
    let lt = c.loop-place-test.true in
    let levels = c.args.levels.now in
    record {
      level = level_word_found c.args.circuit.now levels c.loop-place.place c.args.d _ _ c.loop-place.invariant.none
          (slice_get-get_or levels c.loop-place.place c.index-levels-place-then-levels-place.result lt)
          (slice_get-get_or levels c.loop-place.place c.index-levels-place.result lt)
          c.if-levels-place.true c.requires.levels;
    }

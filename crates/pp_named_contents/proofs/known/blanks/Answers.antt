use Rattle.std.proofs.lemmas.Option.{slice_get-get_or}
use Rattle.pp_prog.specs.declared.sort.Sort.TheVariants as sort
use Rattle.pp_named_contents.proofs.Blank.{blanks_turn}
use Rattle.pp_named_contents.proofs.known.blanks.Goals as goal

pub loop-place-preserved : goal.loop-place-preserved
loop-place-preserved c =
    let at = slice_get-get_or c.args.sorts.now c.loop-place.place sort.Int c.loop-place-test.true in
    record {
      blank = blanks_turn c.args.circuit.now c.args.sorts.now c.loop-place.place _ _ _ _ at c.loop-place.invariant.blank
          c.in_ok-field.ensures c.in_ok-push.ensures.ok;
    }

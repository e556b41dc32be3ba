use Rattle.std.proofs.lemmas.Option.{slice_get-get_or}
use Rattle.pp_prog.specs.declared.sort.Sort.TheVariants as sort
use Rattle.pp_bounded_cases.proofs.Held.{fields_turn}
use Rattle.pp_bounded_cases.proofs.calls.fields_for.Goals as goal

pub loop-place-preserved : goal.loop-place-preserved
loop-place-preserved c =
    let at = slice_get-get_or c.as_slice-sorts.result.now c.loop-place.place sort.Int c.loop-place-test.true in
    record {
      sorted = fields_turn c.args.table.now c.args.trees.now c.args.circuit.now c.as_slice-sorts.result.now
          c.loop-place.place _ c.args.symbols.now _ _ c.in_ok-symbol.symbol c.requires.held at
          c.loop-place.invariant.sorted c.in_ok-symbol.ensures.register c.in_ok-symbol.ensures.sort
          c.in_ok-push.ensures.ok;
    }

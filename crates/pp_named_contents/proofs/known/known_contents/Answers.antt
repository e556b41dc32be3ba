use Rattle.std.proofs.Common.{arith, refl}
use Rattle.std.proofs.lemmas.Option.{slice_get-get_or}
use Rattle.pp_named_contents.proofs.Knowing.{known_are, known_sorts, known_turn}
use Rattle.pp_named_contents.proofs.known.known_contents.Goals as goal

pub known_alternative-requires : goal.known_alternative-requires
known_alternative-requires c =
    let ctors = c.ctors_of-ctors.result.now in
    let at = slice_get-get_or ctors c.loop-place.place c.index-ctors-place.result c.loop-place-test.true in
    record {
      fields = λ same.
          known_sorts c.args.table.now c.args.circuit.now c.args.of c.datatype.result.now c.args.ctor c.args.fields.now
          ctors c.loop-place.place _ _ c.datatype.ensures c.ctors_of-ctors.ensures at c.as_slice-sorts.ensures
          c.requires.fields same;
    }

pub loop-place-preserved : goal.loop-place-preserved
loop-place-preserved c =
    let ctors = c.ctors_of-ctors.result.now in
    let at = slice_get-get_or ctors c.loop-place.place c.index-ctors-place.result c.loop-place-test.true in
    record {
      known = known_turn c.args.circuit.now c.datatype.result.now.first.0 ctors c.loop-place.place c.args.ctor
          c.args.fields.now _ _ _ _ _ _ c.loop-place.invariant.known refl at c.as_slice-sorts.ensures
          c.in_ok-next.ensures c.in_ok-push.ensures.ok;
    }

pub returns : goal.returns
returns c =
    record {
      known = known_are c.args.table.now c.args.circuit.now c.args.of c.datatype.result.now c.args.ctor
          c.args.fields.now c.ctors_of-ctors.result.now c.loop-place.place _ c.datatype.ensures c.requires.ctor
          c.ctors_of-ctors.ensures (let end = c.loop-place-test.false in let most = c.loop-place.auto.place-end in
          omega arith) c.loop-place.invariant.known;
    }

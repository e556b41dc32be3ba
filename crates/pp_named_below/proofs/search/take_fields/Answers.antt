use Rattle.pp_gate.proofs.Places.{at_read}
use Rattle.pp_named_below.proofs.Taking.{field_later, spends_more, taken_turn}
use Rattle.pp_named_below.proofs.search.take_fields.Goals as goal

pub take_field-requires-clause-field : goal.take_field-requires-clause-field
take_field-requires-clause-field c =
    let at = at_read c.args.fields.now c.loop-place.place c.index-fields-place.result c.loop-place-test.true
    c.index-fields-place.is in
    field_later c.args.circuit.now c.loop-place.circuit _ _ c.loop-place.invariant.spends.adds
    (c.requires.fields c.loop-place.place _ at)

pub loop-place-preserved : goal.loop-place-preserved
loop-place-preserved c =
    let at = at_read c.args.fields.now c.loop-place.place c.index-fields-place.result c.loop-place-test.true
    c.index-fields-place.is in
    let now = c.loop-place.invariant in
    let next = c.in_ok-take_field.ensures in
    record {
      spends = spends_more c.args.circuit.now c.loop-place.circuit c.take_field.new.circuit c.args.search.now
          c.loop-place.search c.take_field.new.search now.spends next.spends;
      taken = taken_turn c.args.new.now c.args.path c.args.fields.now c.loop-place.circuit c.take_field.new.circuit
          c.args.search.now c.loop-place.search c.take_field.new.search c.loop-place.place _ at now.taken next.spends
          next.taken;
    }

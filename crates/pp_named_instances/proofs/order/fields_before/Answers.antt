use Rattle.pp_gate.proofs.Growing.{AddsGates_more}
use Rattle.pp_gate.proofs.Places.{at_read}
use Rattle.pp_named_instances.specs.OrderTests.{before_gates}
use Rattle.pp_named_instances.proofs.ContentTests.{total_room, total_turn}
use Rattle.pp_named_instances.proofs.OrderLoops.{before_turn, field_at, next_same, total_same}
use Rattle.pp_named_instances.proofs.order.fields_before.Goals as goal

pub field_before-requires-clause-field : goal.field_before-requires-clause-field
field_before-requires-clause-field c =
    let xs = c.as_slice-fields.result.now in
    let at = at_read xs c.loop-i.i c.index-fields-i.result c.loop-i-test.true c.index-fields-i.is in
    field_at c.args.circuit.now c.loop-i.circuit _ xs c.args.x.now.fields c.loop-i.i _ c.loop-i.invariant.adds
    c.as_slice-fields.ensures c.requires.fields at

pub field_before-requires-clause-room : goal.field_before-requires-clause-room
field_before-requires-clause-room c =
    let xs = c.as_slice-fields.result.now in
    let at = at_read xs c.loop-i.i c.index-fields-i.result c.loop-i-test.true c.index-fields-i.is in
    total_room before_gates c.args.circuit.now c.loop-i.circuit xs c.loop-i.i _ _ c.loop-i.invariant.adds at
    (total_same before_gates xs c.args.x.now.fields _ _ c.as_slice-fields.ensures c.requires.room)

pub returns-in_err-before-clause-adds : goal.returns-in_err-before-clause-adds
returns-in_err-before-clause-adds c =
    let xs = c.as_slice-fields.result.now in
    let at = at_read xs c.loop-i.i c.index-fields-i.result c.loop-i-test.true c.index-fields-i.is in
    AddsGates_more _ _ _ _ _ _ c.loop-i.invariant.adds c.in_err-before.ensures.adds
    (next_same before_gates xs c.args.x.now.fields c.loop-i.i _ c.as_slice-fields.ensures at)

pub loop-i-preserved : goal.loop-i-preserved
loop-i-preserved c =
    let xs = c.as_slice-fields.result.now in
    let at = at_read xs c.loop-i.i c.index-fields-i.result c.loop-i-test.true c.index-fields-i.is in
    let one = c.in_ok-before.ensures in
    record {
      adds = AddsGates_more _ _ _ _ _ _ c.loop-i.invariant.adds one.adds (total_turn before_gates xs c.loop-i.i _ at);
      before = before_turn c.args.groups.now c.args.levels.now c.args.d c.args.place.now _ _ _ c.args.all
          c.args.x.now.lit _ _ xs c.loop-i.i _ at one.adds c.loop-i.invariant.before one.before;
    }

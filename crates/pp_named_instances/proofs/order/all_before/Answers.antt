use Rattle.pp_gate.proofs.Growing.{AddsGates_more}
use Rattle.pp_gate.proofs.Places.{at_read}
use Rattle.pp_named_instances.specs.OrderTests.{fields_before_gates}
use Rattle.pp_named_instances.proofs.ContentTests.{total_next, total_room, total_turn}
use Rattle.pp_named_instances.proofs.OrderLoops.{all_turn, ctors_later}
use Rattle.pp_named_instances.proofs.order.all_before.Goals as goal

pub fields_before-requires-clause-fields : goal.fields_before-requires-clause-fields
fields_before-requires-clause-fields c =
    let at = at_read c.args.alternatives.now c.loop-j.j c.index-alternatives-j.result c.loop-j-test.true
    c.index-alternatives-j.is in
    (ctors_later c.args.circuit.now c.loop-j.circuit _ c.args.alternatives.now c.loop-j.invariant.adds
    c.requires.ctors).fields c.loop-j.j _ at

pub fields_before-requires-clause-room : goal.fields_before-requires-clause-room
fields_before-requires-clause-room c =
    let at = at_read c.args.alternatives.now c.loop-j.j c.index-alternatives-j.result c.loop-j-test.true
    c.index-alternatives-j.is in
    total_room fields_before_gates c.args.circuit.now c.loop-j.circuit c.args.alternatives.now c.loop-j.j _ _
    c.loop-j.invariant.adds at c.requires.room

pub returns-in_err-before-clause-adds : goal.returns-in_err-before-clause-adds
returns-in_err-before-clause-adds c =
    let at = at_read c.args.alternatives.now c.loop-j.j c.index-alternatives-j.result c.loop-j-test.true
    c.index-alternatives-j.is in
    AddsGates_more _ _ _ _ _ _ c.loop-j.invariant.adds c.in_err-before.ensures.adds
    (total_next fields_before_gates c.args.alternatives.now c.loop-j.j _ at)

pub loop-j-preserved : goal.loop-j-preserved
loop-j-preserved c =
    let at = at_read c.args.alternatives.now c.loop-j.j c.index-alternatives-j.result c.loop-j-test.true
    c.index-alternatives-j.is in
    let one = c.in_ok-before.ensures in
    record {
      adds = AddsGates_more _ _ _ _ _ _ c.loop-j.invariant.adds one.adds
          (total_turn fields_before_gates c.args.alternatives.now c.loop-j.j _ at);
      before = all_turn c.args.groups.now c.args.levels.now c.args.d c.args.place.now _ _ _ _ _ c.args.alternatives.now
          c.loop-j.j _ at one.adds c.loop-j.invariant.before one.before;
    }

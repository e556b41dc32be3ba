use Rattle.pp_gate.proofs.Growing.{AddsGates_more}
use Rattle.pp_gate.proofs.Places.{at_read}
use Rattle.pp_named_instances.proofs.ContentTests.{agreements_turn, agreements_whole, looks_later, total_next}
use Rattle.pp_named_instances.proofs.ContentTests.{total_room}
use Rattle.pp_named_instances.proofs.ContentTests.{total_turn}
use Rattle.pp_named_instances.specs.Tests.{agreement_gates_if}
use Rattle.pp_named_instances.proofs.agreement.agreements.Goals as goal

pub agreement_if-requires-clause-other : goal.agreement_if-requires-clause-other
agreement_if-requires-clause-other c =
    let at = at_read c.args.earlier.now c.loop-place.place c.index-earlier-place.result c.loop-place-test.true
    c.index-earlier-place.is in
    looks_later c.args.circuit.now c.loop-place.circuit _ c.args.y.now c.args.earlier.now c.loop-place.place _
    c.loop-place.invariant.adds c.requires.looks at

pub agreement_if-requires-clause-room : goal.agreement_if-requires-clause-room
agreement_if-requires-clause-room c =
    let at = at_read c.args.earlier.now c.loop-place.place c.index-earlier-place.result c.loop-place-test.true
    c.index-earlier-place.is in
    total_room (agreement_gates_if c.args.y.now) c.args.circuit.now c.loop-place.circuit c.args.earlier.now
    c.loop-place.place _ _ c.loop-place.invariant.adds at c.requires.room

pub returns-in_err-all-clause-adds : goal.returns-in_err-all-clause-adds
returns-in_err-all-clause-adds c =
    let at = at_read c.args.earlier.now c.loop-place.place c.index-earlier-place.result c.loop-place-test.true
    c.index-earlier-place.is in
    AddsGates_more _ _ _ _ _ _ c.loop-place.invariant.adds c.in_err-all.ensures.adds
    (total_next (agreement_gates_if c.args.y.now) c.args.earlier.now c.loop-place.place _ at)

pub loop-place-preserved : goal.loop-place-preserved
loop-place-preserved c =
    let at = at_read c.args.earlier.now c.loop-place.place c.index-earlier-place.result c.loop-place-test.true
    c.index-earlier-place.is in
    let one = c.in_ok-all.ensures in
    record {
      adds = AddsGates_more _ _ _ _ _ _ c.loop-place.invariant.adds one.adds
          (total_turn (agreement_gates_if c.args.y.now) c.args.earlier.now c.loop-place.place _ at);
      agree = agreements_turn _ _ _ _ _ c.args.y.now _ c.args.earlier.now c.loop-place.place at one.adds
          c.loop-place.invariant.agree one.agree;
    }

pub returns-clause-agree : goal.returns-clause-agree
returns-clause-agree c =
    agreements_whole _ _ c.args.y.now c.args.earlier.now c.loop-place.place c.loop-place-test.false
    c.loop-place.invariant.agree

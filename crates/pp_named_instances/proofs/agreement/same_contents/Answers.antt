use Rattle.pp_gate.proofs.Growing.{AddsGates_more}
use Rattle.pp_gate.proofs.Places.{at_read}
use Rattle.pp_named_instances.proofs.SameTests.{index_within}
use Rattle.pp_named_instances.proofs.ContentTests.{contents_turn, contents_whole, one_ctor_later, total_next}
use Rattle.pp_named_instances.proofs.ContentTests.{total_room}
use Rattle.pp_named_instances.proofs.ContentTests.{total_turn}
use Rattle.pp_named_instances.specs.Tests.{ctor_same_gates}
use Rattle.pp_named_instances.proofs.agreement.same_contents.Goals as goal

pub bounds-ys-place : goal.bounds-ys-place
bounds-ys-place c = index_within c.args.xs.now c.args.ys.now _ c.requires.contents.many c.loop-place-test.true

pub same_ctor-requires-clause-ctor : goal.same_ctor-requires-clause-ctor
same_ctor-requires-clause-ctor c =
    let lt = index_within c.args.xs.now c.args.ys.now _ c.requires.contents.many c.loop-place-test.true in
    let at = at_read c.args.xs.now c.loop-place.place c.index-xs-place.result c.loop-place-test.true
    c.index-xs-place.is in
    let to = at_read c.args.ys.now c.loop-place.place c.index-ys-place.result lt c.index-ys-place.is in
    one_ctor_later c.args.circuit.now c.loop-place.circuit _ _ _ c.loop-place.invariant.adds
    (c.requires.contents.each c.loop-place.place _ _ at to)

pub same_ctor-requires-clause-room : goal.same_ctor-requires-clause-room
same_ctor-requires-clause-room c =
    let at = at_read c.args.xs.now c.loop-place.place c.index-xs-place.result c.loop-place-test.true
    c.index-xs-place.is in
    total_room ctor_same_gates c.args.circuit.now c.loop-place.circuit c.args.xs.now c.loop-place.place _ _
    c.loop-place.invariant.adds at c.requires.room

pub returns-in_err-all-clause-adds : goal.returns-in_err-all-clause-adds
returns-in_err-all-clause-adds c =
    let at = at_read c.args.xs.now c.loop-place.place c.index-xs-place.result c.loop-place-test.true
    c.index-xs-place.is in
    AddsGates_more _ _ _ _ _ _ c.loop-place.invariant.adds c.in_err-all.ensures.adds
    (total_next ctor_same_gates c.args.xs.now c.loop-place.place _ at)

pub loop-place-preserved : goal.loop-place-preserved
loop-place-preserved c =
    let len = c.requires.contents.many in
    let lt = index_within c.args.xs.now c.args.ys.now _ len c.loop-place-test.true in
    let at = at_read c.args.xs.now c.loop-place.place c.index-xs-place.result c.loop-place-test.true
    c.index-xs-place.is in
    let to = at_read c.args.ys.now c.loop-place.place c.index-ys-place.result lt c.index-ys-place.is in
    let one = c.in_ok-all.ensures in
    record {
      adds = AddsGates_more _ _ _ _ _ _ c.loop-place.invariant.adds one.adds
          (total_turn ctor_same_gates c.args.xs.now c.loop-place.place _ at);
      same = contents_turn _ _ _ _ _ c.args.xs.now c.args.ys.now c.loop-place.place _ _ len one.adds at to
          c.loop-place.invariant.same one.same;
    }

pub returns-clause-same : goal.returns-clause-same
returns-clause-same c =
    contents_whole _ _ c.args.xs.now c.args.ys.now c.loop-place.place c.requires.contents.many c.loop-place-test.false
    c.loop-place.invariant.same

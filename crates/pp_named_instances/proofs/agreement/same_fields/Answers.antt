use Rattle.pp_gate.proofs.Growing.{AddsGates_more}
use Rattle.pp_gate.proofs.Places.{at_read}
use Rattle.pp_named_instances.proofs.SameTests.{gates_next, gates_turn, index_within, parts_length, room_and, room_one}
use Rattle.pp_named_instances.proofs.SameTests.{refl_le, same_turn, sum_one, sum_two, turn_parts, turn_room, whole}
use Rattle.pp_named_instances.proofs.agreement.same_fields.Goals as goal

pub bounds-ys-place : goal.bounds-ys-place
bounds-ys-place c =
    let p = c.requires.parts in
    index_within c.args.xs.now c.args.ys.now _ (parts_length _ p.sorts _ _ p.first p.second) c.loop-place-test.true

pub same_symbol-requires-clause-parts : goal.same_symbol-requires-clause-parts
same_symbol-requires-clause-parts c =
    let p = c.requires.parts in
    let lt = index_within c.args.xs.now c.args.ys.now _ (parts_length _ p.sorts _ _ p.first p.second)
    c.loop-place-test.true in
    turn_parts _ _ _ c.args.xs.now c.args.ys.now c.loop-place.place _ _ c.loop-place.invariant.adds p
    (at_read c.args.xs.now c.loop-place.place c.index-xs-place.result c.loop-place-test.true c.index-xs-place.is)
    (at_read c.args.ys.now c.loop-place.place c.index-ys-place.result lt c.index-ys-place.is)

pub same_symbol-requires-clause-room : goal.same_symbol-requires-clause-room
same_symbol-requires-clause-room c =
    room_one _ _ _ (turn_room _ _ c.args.xs.now c.loop-place.place _ _ c.loop-place.invariant.adds
    (at_read c.args.xs.now c.loop-place.place c.index-xs-place.result c.loop-place-test.true c.index-xs-place.is)
    c.requires.room)

pub returns-in_err-same-clause-adds : goal.returns-in_err-same-clause-adds
returns-in_err-same-clause-adds c =
    AddsGates_more _ _ _ _ _ _ c.loop-place.invariant.adds c.in_err-same.ensures.adds
    (sum_one _ _ _ (gates_next c.args.xs.now c.loop-place.place _
    (at_read c.args.xs.now c.loop-place.place c.index-xs-place.result c.loop-place-test.true c.index-xs-place.is)))

pub and-requires-clause-room : goal.and-requires-clause-room
and-requires-clause-room c =
    room_and _ _ _ _ c.in_ok-same.ensures.adds (turn_room _ _ c.args.xs.now c.loop-place.place _ _
    c.loop-place.invariant.adds
    (at_read c.args.xs.now c.loop-place.place c.index-xs-place.result c.loop-place-test.true c.index-xs-place.is)
    c.requires.room)

pub returns-in_err-all-clause-adds : goal.returns-in_err-all-clause-adds
returns-in_err-all-clause-adds c =
    let at = at_read c.args.xs.now c.loop-place.place c.index-xs-place.result c.loop-place-test.true
    c.index-xs-place.is in
    AddsGates_more _ _ _ _ _ _
    (AddsGates_more _ _ _ _ _ _ c.loop-place.invariant.adds c.in_ok-same.ensures.adds refl_le)
    c.in_err-all.ensures.adds (sum_two _ _ _ (gates_next c.args.xs.now c.loop-place.place _ at))

pub loop-place-preserved : goal.loop-place-preserved
loop-place-preserved c =
    let p = c.requires.parts in
    let len = parts_length _ p.sorts c.args.xs.now c.args.ys.now p.first p.second in
    let at = at_read c.args.xs.now c.loop-place.place c.index-xs-place.result c.loop-place-test.true
    c.index-xs-place.is in
    let to = at_read c.args.ys.now c.loop-place.place c.index-ys-place.result
    (index_within c.args.xs.now c.args.ys.now _ len c.loop-place-test.true) c.index-ys-place.is in
    record {
      adds = AddsGates_more _ _ _ _ _ _
          (AddsGates_more _ _ _ _ _ _ c.loop-place.invariant.adds c.in_ok-same.ensures.adds refl_le)
          c.in_ok-all.ensures.adds (sum_two _ _ _ (gates_turn c.args.xs.now c.loop-place.place _ at));
      same = same_turn _ _ _ _ _ _ _ _ _ c.args.xs.now c.args.ys.now c.loop-place.place _ _ len
          c.in_ok-same.ensures.adds c.in_ok-all.ensures.adds c.loop-place.invariant.same c.in_ok-same.ensures.same at to
          c.in_ok-all.ensures.stands;
    }

pub returns-clause-same : goal.returns-clause-same
returns-clause-same c =
    let p = c.requires.parts in
    whole _ _ _ c.args.xs.now c.args.ys.now c.loop-place.place
    (parts_length _ p.sorts c.args.xs.now c.args.ys.now p.first p.second) c.loop-place-test.false
    c.loop-place.invariant.same

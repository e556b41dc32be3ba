use Rattle.std.proofs.Common.{◌≡◌, ◌<◌, ℕ, List, length, refl, arith}
use Rattle.std.proofs.lemmas.Option.{slice_get-get_or}
use Rattle.pp_gate.proofs.Growing.{Grows_more}
use Rattle.pp_gate.proofs.Places.{at_read}
use Rattle.pp_bits.proofs.Growing.{IsOf_at}
use Rattle.pp_named_contents.proofs.Turns.{are_turn, turn_most, turn_next, turn_room}
use Rattle.pp_named_contents.proofs.contents.fresh_alternatives.Goals as goal

at_place : {X Y : Type 0} (xs : List X) (ys : List Y) (i : ℕ) → length xs ≡ length ys → i < length ys → i < length xs
at_place xs ys i e lt = omega arith

pub guarded_fields-requires-clause-room : goal.guarded_fields-requires-clause-room
guarded_fields-requires-clause-room c =
    let at = slice_get-get_or c.args.ctors.now c.loop-place.place c.index-ctors-place.result c.loop-place-test.true in
    turn_room _ _ c.args.ctors.now c.loop-place.place _ _ _ c.loop-place.invariant.grows at c.as_slice.ensures
    c.requires.room

pub returns-in_err-fields-clause-grows : goal.returns-in_err-fields-clause-grows
returns-in_err-fields-clause-grows c =
    let at = slice_get-get_or c.args.ctors.now c.loop-place.place c.index-ctors-place.result c.loop-place-test.true in
    Grows_more _ _ _ _ _ _ c.loop-place.invariant.grows c.in_err-fields.ensures.grows
    (turn_most c.args.ctors.now c.loop-place.place _ _ at c.as_slice.ensures)

pub returns-in_err-push-clause-grows : goal.returns-in_err-push-clause-grows
returns-in_err-push-clause-grows c =
    let at = slice_get-get_or c.args.ctors.now c.loop-place.place c.index-ctors-place.result c.loop-place-test.true in
    Grows_more _ _ _ _ _ _ c.loop-place.invariant.grows c.in_ok-fields.ensures.grows
    (turn_most c.args.ctors.now c.loop-place.place _ _ at c.as_slice.ensures)

pub loop-place-preserved : goal.loop-place-preserved
loop-place-preserved c =
    let at = slice_get-get_or c.args.ctors.now c.loop-place.place c.index-ctors-place.result c.loop-place-test.true in
    let few : c.loop-place.place < length c.args.lits.now = at_place c.args.lits.now c.args.ctors.now c.loop-place.place
    c.requires.same c.loop-place-test.true in
    let lit = at_read c.args.lits.now c.loop-place.place c.index-lits-place.result few c.index-lits-place.is in
    let now = c.loop-place.invariant in
    let fields = c.in_ok-fields.ensures in
    record {
      grows = Grows_more _ _ _ _ _ _ now.grows fields.grows
          (turn_next c.args.ctors.now c.loop-place.place _ _ at c.as_slice.ensures);
      circuit = fields.circuit;
      are = are_turn _ _ _ _ _ c.args.low c.args.first c.args.ctors.now c.args.lits.now c.loop-place.place _ _ _ _ _
          now.grows
          now.circuit fields.grows fields.circuit now.are lit
          (IsOf_at _ _ _ _ c.requires.lits few c.index-lits-place.is) refl at
          c.as_slice.ensures fields.guarded c.in_ok-push.ensures.ok;
    }

use Rattle.std.proofs.Common.{arith}
use Rattle.pp_build.proofs.Progress.{building_end, building_kept, building_left, building_moves, building_start}
use Rattle.pp_build.proofs.Progress.{building_turn, building_words, can_perform, pushed_length}
use Rattle.pp_build.proofs.perform.build.Goals as goal

pub loop-number-init : goal.loop-number-init
loop-number-init g c =
    (omega arith, building_start _ _ _ _ _ _ g.met.D.Domain.lawful c.requires.fits)

pub loop-number-preserved : goal.loop-number-preserved
loop-number-preserved g c = (
  pushed_length _ _ _ _ c.loop-number.invariant.0 c.in_ok-push.ensures.ok,
  building_turn _ _ _ _ _ _ _ _ _ _ _ c.loop-number.invariant.0 c.loop-number-test.true
      c.index-steps-number.is _ _ _ _ c.loop-number.invariant.1 c.in_ok-symbol.ensures.moves
      c.in_ok-symbol.ensures.words c.in_ok-symbol.ensures.performs c.in_ok-push.ensures.ok,
)

pub perform-requires-clause-fits : goal.perform-requires-clause-fits
perform-requires-clause-fits g c =
    let can = c.requires.can in (c.loop-number.invariant.1 can.0 can.1).moves.fits

pub perform-requires-clause-can : goal.perform-requires-clause-can
perform-requires-clause-can g c =
    let can = c.requires.can in
    can_perform _ _ _ _ _ _ _ _ _ _ _ c.loop-number.invariant.0 c.loop-number-test.true c.index-steps-number.is
    can.0 can.1 (c.loop-number.invariant.1 can.0 can.1)

pub returns-in_err-symbol-clause-moves : goal.returns-in_err-symbol-clause-moves
returns-in_err-symbol-clause-moves g c =
    building_left _ _ _ _ _ _ _ _ _ _ _ c.loop-number.invariant.0 c.loop-number-test.true c.index-steps-number.is
    _ _ c.loop-number.invariant.1 c.in_err-symbol.ensures.moves

pub returns-in_err-push-clause-moves : goal.returns-in_err-push-clause-moves
returns-in_err-push-clause-moves g c =
    building_left _ _ _ _ _ _ _ _ _ _ _ c.loop-number.invariant.0 c.loop-number-test.true c.index-steps-number.is
    _ _ c.loop-number.invariant.1 c.in_ok-symbol.ensures.moves

pub returns-clause-moves : goal.returns-clause-moves
returns-clause-moves g c = building_moves _ _ _ _ _ _ _ _ _ c.loop-number.invariant.1

pub returns-clause-built : goal.returns-clause-built
returns-clause-built g c =
    let fewer = c.requires.can.1.fewer in
    let first = c.len-number.ensures in
    let last = c.loop-number.auto.number-end in
    let many = c.loop-number.invariant.0 in
    building_end _ _ _ _ _ _ _ _ _ (omega arith) c.loop-number.invariant.1

pub returns-in_err-symbol-clause-words : goal.returns-in_err-symbol-clause-words
returns-in_err-symbol-clause-words g c =
    building_kept _ _ _ _ _ _ _ _ _ _ _ c.loop-number.invariant.0 c.loop-number-test.true c.index-steps-number.is
    _ c.loop-number.invariant.1 c.in_err-symbol.ensures.words

pub returns-in_err-push-clause-words : goal.returns-in_err-push-clause-words
returns-in_err-push-clause-words g c =
    building_kept _ _ _ _ _ _ _ _ _ _ _ c.loop-number.invariant.0 c.loop-number-test.true c.index-steps-number.is
    _ c.loop-number.invariant.1 c.in_ok-symbol.ensures.words

pub returns-clause-words : goal.returns-clause-words
returns-clause-words g c = building_words _ _ _ _ _ _ _ _ _ c.loop-number.invariant.1

use Rattle.pp_build.proofs.ManyUnknown.{all_moved, all_unknown, opened_left, opened_room, opened_sort, opened_start}
use Rattle.pp_build.proofs.ManyUnknown.{opened_turn}
use Rattle.pp_build.proofs.unknown.open_all.Goals as goal

pub loop-param-init : goal.loop-param-init
loop-param-init g c = opened_start _ _ g.met.D.Domain.lawful _ _ _ _ _ c.requires.fits c.new-symbols.ensures

pub loop-param-preserved : goal.loop-param-preserved
loop-param-preserved g c =
    opened_turn _ _ _ _ _ _ _ _ _ _ _ c.loop-param.invariant c.loop-param-test.true c.param-item.is _ _ _ _
    c.requires.depth c.in_ok-symbol.ensures.moves c.in_ok-symbol.ensures.answer c.in_ok-push.ensures.ok

pub unknown-requires-clause-fits : goal.unknown-requires-clause-fits
unknown-requires-clause-fits g c = c.loop-param.invariant.moves.fits

pub unknown-requires-clause-sort : goal.unknown-requires-clause-sort
unknown-requires-clause-sort g c =
    opened_sort _ _ _ _ _ _ _ _ _ _ _ c.loop-param.invariant c.loop-param-test.true c.param-item.is c.requires.sorts

pub unknown-requires-clause-room : goal.unknown-requires-clause-room
unknown-requires-clause-room g c =
    opened_room _ _ _ _ _ _ _ _ _ _ _ c.loop-param.invariant c.loop-param-test.true c.param-item.is c.requires.room

pub returns-in_err-symbol-clause-moves : goal.returns-in_err-symbol-clause-moves
returns-in_err-symbol-clause-moves g c =
    opened_left _ _ _ _ _ _ _ _ _ _ _ c.loop-param.invariant c.loop-param-test.true c.param-item.is _ _
    c.in_err-symbol.ensures.moves

pub returns-in_err-push-clause-moves : goal.returns-in_err-push-clause-moves
returns-in_err-push-clause-moves g c =
    opened_left _ _ _ _ _ _ _ _ _ _ _ c.loop-param.invariant c.loop-param-test.true c.param-item.is _ _
    c.in_ok-symbol.ensures.moves

pub returns-clause-moves : goal.returns-clause-moves
returns-clause-moves g c = all_moved _ _ _ _ _ _ _ _ _ _ c.loop-param-test.false c.loop-param.invariant

pub returns-clause-answer : goal.returns-clause-answer
returns-clause-answer g c = all_unknown _ _ _ _ _ _ _ _ _ _ c.loop-param-test.false c.loop-param.invariant
